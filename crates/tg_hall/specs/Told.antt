-- What replies tell: which rules were accepted.
use Rattle.std.specs.Prelude.{Bool, true, false, ◌&&◌, if◌then◌else◌, List, [], flat_map}
use Rattle.tg_graph.specs.declared.rules.Rule.TheVariants.{Take, Grant, Create, Remove}
use Rattle.tg_graph.specs.declared.session.Step.{Step}
use Rattle.tg_graph.specs.declared.session.Step.TheVariants.{Do, Holds, Share}
use Rattle.tg_graph.specs.declared.session.Reply.{Reply}
use Rattle.tg_graph.specs.declared.session.Reply.TheVariants.{Done, Yes, No, Refused}
use Rattle.tg_names.specs.Names.{Name}
use Rattle.tg_graph.specs.Drafts.{written_by}
use Rattle.tg_hall.specs.declared.answers.Answered.{Answered}

abbrev pub is_done : Reply → Bool
is_done Done = true
is_done Yes = false
is_done No = false
is_done (Refused refusal) = false

-- the names that a step wrote, if its reply is true
abbrev pub told_writes : Step → Reply → List Name
told_writes (Do rule) reply = if is_done reply then written_by rule else []
told_writes (Holds right x y) reply = []
told_writes (Share right x y) reply = []

abbrev pub all_told_writes : List Answered → List Name
all_told_writes steps = flat_map (λ a. told_writes a.step a.reply) steps

abbrev pub is_creation : Step → Bool
is_creation (Do (Create x n s)) = true
is_creation (Do (Take x y z s)) = false
is_creation (Do (Grant x y z s)) = false
is_creation (Do (Remove x y s)) = false
is_creation (Holds right x y) = false
is_creation (Share right x y) = false

abbrev pub is_rule : Step → Bool
is_rule (Do rule) = true
is_rule (Holds right x y) = false
is_rule (Share right x y) = false

-- whether the step created a vertex
abbrev pub tells_creation : Answered → Bool
tells_creation a = is_creation a.step && is_done a.reply

-- whether the step was a rule that was carried out
abbrev pub tells_change : Answered → Bool
tells_change a = is_rule a.step && is_done a.reply
