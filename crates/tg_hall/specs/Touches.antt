-- The names that a record writes, those that a session touches, and when a record stands in a session's way.
use Rattle.std.specs.Prelude.{◌≡◌, ℕ, ◌+◌, ◌<◌, Bool, true, false, ◌||◌, if◌then◌else◌, List, [], ◌∷◌, ◌++◌, Option, None, Some, is_none, find, ⊤}
use Rattle.std.specs.List.{list_any}
use Rattle.tg_graph.specs.declared.rules.Rule.TheVariants.{Take, Grant, Create, Remove}
use Rattle.tg_graph.specs.declared.rules.Refusal.TheVariants.{Unknown, Taken, Empty, NoTake, NoGrant, NotHeld, Full}
use Rattle.tg_graph.specs.declared.session.Step.{Step}
use Rattle.tg_graph.specs.declared.session.Step.TheVariants.{Do, Holds, Share}
use Rattle.tg_graph.specs.declared.session.Reply.{Reply}
use Rattle.tg_graph.specs.declared.session.Reply.TheVariants.{Done, Yes, No, Refused}
use Rattle.tg_names.specs.Names.{Name, same_name}
use Rattle.tg_graph.specs.Graphs.{ProtectionGraph}
use Rattle.tg_graph.specs.Drafts.{written_by}
use Rattle.tg_graph.specs.Limits.{most_vertices}
use Rattle.tg_hall.specs.declared.answers.Answered.{Answered}
use Rattle.tg_hall.specs.Answers.{session_refusal, after_step, after_steps}

-- the names that a step writes
abbrev pub step_writes : ProtectionGraph → Step → List Name
step_writes g (Do rule) = if is_none (session_refusal g rule) then written_by rule else []
step_writes g (Holds right x y) = []
step_writes g (Share right x y) = []

-- the names that steps write from a graph on, in their order
abbrev pub writes : ProtectionGraph → List Answered → List Name
writes g [] = []
writes g (a ∷ rest) = step_writes g a.step ++ writes (after_step g a.step) rest

-- whether a step touches a name, accepted or refused
abbrev pub step_touches : Step → Name → Bool
step_touches (Do (Take x y z s)) v = same_name v x || same_name v y
step_touches (Do (Grant x y z s)) v = same_name v x || same_name v y
step_touches (Do (Create x n s)) v = same_name v x || same_name v n
step_touches (Do (Remove x y s)) v = same_name v x
step_touches (Holds right x y) v = same_name v x
step_touches (Share right x y) v = true

-- whether a reply touches a name: the one that it says is no vertex
abbrev pub reply_touches : Reply → Name → Bool
reply_touches (Refused (Unknown name)) v = same_name v name
reply_touches (Refused (Taken name)) v = false
reply_touches (Refused Empty) v = false
reply_touches (Refused NoTake) v = false
reply_touches (Refused NoGrant) v = false
reply_touches (Refused (NotHeld s)) v = false
reply_touches (Refused Full) v = false
reply_touches Done v = false
reply_touches Yes v = false
reply_touches No v = false

-- whether a session with these steps touches a name
abbrev pub touches : List Answered → Name → Bool
touches steps v = list_any (λ a. step_touches a.step v || reply_touches a.reply v) steps

-- the first written name that the session touches
abbrev pub spoiler : ProtectionGraph → List Answered → List Answered → Option Name
spoiler g committed session = find (touches session) (writes g committed)

-- the vertex that a step creates
abbrev pub step_creates : ProtectionGraph → Step → List Name
step_creates g (Do (Create x n s)) = if is_none (session_refusal g (Create x n s)) then n ∷ [] else []
step_creates g (Do (Take x y z s)) = []
step_creates g (Do (Grant x y z s)) = []
step_creates g (Do (Remove x y s)) = []
step_creates g (Holds right x y) = []
step_creates g (Share right x y) = []

-- the vertices that steps create from a graph on
abbrev pub creates : ProtectionGraph → List Answered → List Name
creates g [] = []
creates g (a ∷ rest) = step_creates g a.step ++ creates (after_step g a.step) rest

-- how many names there are in a list, each counted once
abbrev pub name_count : List Name → ℕ
name_count [] = 0
name_count (v ∷ vs) = if list_any (same_name v) vs then name_count vs else name_count vs + 1

-- the vertices after the record, together with those that the session creates, are too many
abbrev pub IsCrowded : ProtectionGraph → List Answered → List Answered → Type 0
IsCrowded g committed session = most_vertices < name_count ((after_steps g committed).vertices ++ creates g session)

-- the record spoils no session and crowds none
abbrev pub IsClear : ProtectionGraph → List Answered → Option (List Answered) → Type 0
IsClear g committed None = ⊤
IsClear g committed (Some session) = (spoiler g committed session ≡ None) × ¬ IsCrowded g committed session

-- it spoils the session, by this name
abbrev pub IsSpoilt : ProtectionGraph → List Answered → Option (List Answered) → Name → Type 0
IsSpoilt g committed None name = ⊥
IsSpoilt g committed (Some session) name = spoiler g committed session ≡ Some name

-- it does not spoil the session, and crowds it
abbrev pub IsOvercrowded : ProtectionGraph → List Answered → Option (List Answered) → Type 0
IsOvercrowded g committed None = ⊥
IsOvercrowded g committed (Some session) = (spoiler g committed session ≡ None) × IsCrowded g committed session
