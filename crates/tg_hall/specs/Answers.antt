-- What a step of a session answers, and the graph after it.
use Rattle.std.specs.Prelude.{◌≡◌, nat_le, if◌then◌else◌, List, [], ◌∷◌, length, Option, None, Some, is_none, ⊤}
use Rattle.tg_graph.specs.declared.rules.Rule.{Rule}
use Rattle.tg_graph.specs.declared.rules.Rule.TheVariants.{Take, Grant, Create, Remove}
use Rattle.tg_graph.specs.declared.rules.Refusal.{Refusal}
use Rattle.tg_graph.specs.declared.rules.Refusal.TheVariants.{Full}
use Rattle.tg_graph.specs.declared.session.Step.{Step}
use Rattle.tg_graph.specs.declared.session.Step.TheVariants.{Do, Holds, Share}
use Rattle.tg_graph.specs.declared.session.Reply.{Reply}
use Rattle.tg_graph.specs.declared.session.Reply.TheVariants.{Done, Yes, No, Refused}
use Rattle.tg_names.specs.Names.{Name}
use Rattle.tg_graph.specs.Graphs.{ProtectionGraph}
use Rattle.tg_graph.specs.Limits.{most_vertices}
use Rattle.tg_graph.specs.Rules.{refusal_of, after, unknown}
use Rattle.tg_graph.specs.RuleLists.{CanShare}
use Rattle.tg_hall.specs.declared.answers.Answered.{Answered}

-- why a rule that is not refused is refused in a session: it has no room for a vertex
abbrev pub lack_of_room : ProtectionGraph → Rule → Option Refusal
lack_of_room g (Create x n s) = if nat_le most_vertices (length g.vertices) then Some Full else None
lack_of_room g (Take x y z s) = None
lack_of_room g (Grant x y z s) = None
lack_of_room g (Remove x y s) = None

abbrev pub or_else : Option Refusal → Option Refusal → Option Refusal
or_else (Some refusal) later = Some refusal
or_else None later = later

-- the first refusal of a rule in a session
abbrev pub session_refusal : ProtectionGraph → Rule → Option Refusal
session_refusal g rule = or_else (refusal_of g rule) (lack_of_room g rule)

-- the first of the two that is no vertex
abbrev pub unknown_of_two : ProtectionGraph → Name → Name → Option Refusal
unknown_of_two g x y = unknown g x (unknown g y None)

abbrev pub reply_unless : Option Refusal → Reply → Reply
reply_unless None reply = reply
reply_unless (Some refusal) reply = Refused refusal

-- the graph gives this reply to the step
abbrev pub IsAnswer : ProtectionGraph → Step → Reply → Type 0
IsAnswer g (Do rule) reply = reply ≡ reply_unless (session_refusal g rule) Done
IsAnswer g (Holds right x y) reply = reply ≡ reply_unless (unknown_of_two g x y) (if g.holds x right y then Yes else No)
IsAnswer g (Share right x y) Yes = (unknown_of_two g x y ≡ None) × CanShare g right x y
IsAnswer g (Share right x y) No = (unknown_of_two g x y ≡ None) × ¬ CanShare g right x y
IsAnswer g (Share right x y) (Refused refusal) = unknown_of_two g x y ≡ Some refusal
IsAnswer g (Share right x y) Done = ⊥

-- the graph after the step
abbrev pub after_step : ProtectionGraph → Step → ProtectionGraph
after_step g (Do rule) = if is_none (session_refusal g rule) then after g rule else g
after_step g (Holds right x y) = g
after_step g (Share right x y) = g

-- the graph after steps, whatever their stored replies say
abbrev pub after_steps : ProtectionGraph → List Answered → ProtectionGraph
after_steps g [] = g
after_steps g (a ∷ rest) = after_steps (after_step g a.step) rest

-- each stored reply is an answer of the graph at its place
abbrev pub AreAnswers : ProtectionGraph → List Answered → Type 0
AreAnswers g [] = ⊤
AreAnswers g (a ∷ rest) = IsAnswer g a.step a.reply × AreAnswers (after_step g a.step) rest
