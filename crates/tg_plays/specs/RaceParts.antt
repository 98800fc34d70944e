-- What the parts of a race's making bring.
use Rattle.std.specs.Prelude.{◌≡◌, ◌⊎◌, ◌∷◌, ◌<◌, ⊤, ℕ, Bool, true, false, List, ◌++◌, All, IfOk, Ok, Some, Result, length, map, max, slice_get, slice_index_or}
use Rattle.std.specs.List.{flat_map}
use Rattle.std.specs.declared.alloc.AllocError.{AllocError}
use Rattle.tg_text.specs.declared.script_text.ScriptLine.{ScriptLine}
use Rattle.tg_graph.specs.GraphOf.{graph_of}
use Rattle.tg_journal.specs.Lists.{Begins}
use Rattle.tg_store.specs.declared.outcomes.StoreMeetFault.{StoreMeetFault}
use Rattle.tg_store.specs.declared.outcomes.StoreMeetFault.TheVariants as meet
use Rattle.tg_hall.specs.Histories.{replay}
use Rattle.tg_store.specs.Running.{RunningSeat, IsSeat, GoesOn, PutsNothing}
use Rattle.tg_graph.specs.StepWords.{IsStageableAct}
use Rattle.tg_plays.specs.declared.racing.Finished.{Finished}
use Rattle.tg_plays.specs.declared.turns.Player.{Player}
use Rattle.tg_plays.specs.declared.turns.Player.TheVariants.{Free}
use Rattle.tg_plays.specs.declared.turns.RaceReply.{RaceReply}
use Rattle.tg_plays.specs.declared.turns.RaceReply.TheVariants.{Told, Foreign, Memory}
use Rattle.tg_inputs.specs.Readings.{ReportText}
use Rattle.tg_plays.specs.RunParts.{MayBeTold}
use Rattle.tg_plays.specs.Races.{seat_at, events_of, race_line, race_lines, taken_in, graph_report, foreign_report, Turns, TakesTurns, HasFoundForeign}

-- an event of a race may come to this
abbrev pub MayBeToldInRace : RaceReply → Type 0
MayBeToldInRace (Told answer) = MayBeTold answer
MayBeToldInRace (Foreign place) = ⊤
MayBeToldInRace Memory = ⊤

-- the steps that the events stage name only rights
abbrev pub AreStageable : List ScriptLine → Type 0
AreStageable events = All (λ event. IsStageableAct event.act) events

-- a seat does what an event says, and the line of the outcome is added to the text
pub record TurnsOn (old : Player) (event : ScriptLine) (text text' : List ℕ) (new : Player) : Type 0 where
  pub answer : RaceReply
  pub turn : Turns old event.act answer new
  pub added : text' ≡ text ++ race_line event answer

-- it does so only where the event is its own
abbrev pub TurnsIf : Bool → Player → ScriptLine → List ℕ → List ℕ → Player → Type 0
TurnsIf true old event text text' new = TurnsOn old event text text' new
TurnsIf false old event text text' new = (text' ≡ text) × (new ≡ old)

-- events were played from a seat on, and the text has the lines of what they came to
pub record HasPlayedTurns (s : RunningSeat) (events : List ScriptLine) (text : List ℕ) (player : Player) : Type 0 where
  pub answers : List RaceReply
  pub turns : TakesTurns (Free s) events answers player
  pub lines : text ≡ race_lines events answers

-- the seat has played its own events
pub record IsFinished (events : List ScriptLine) (s : RunningSeat) (f : Finished) : Type 0 where
  pub player : Player
  pub played : HasPlayedTurns s (events_of s.pass.number events) f.text.items player
  pub end : f.seat ≡ seat_at player
  pub seat : IsSeat f.seat

-- each seat has done so, unless there was no memory for its text
abbrev pub AreFinished : List ScriptLine → List RunningSeat → List (Result Finished AllocError) → Type 0
AreFinished events seats results =
    (k : ℕ) (d : Result Finished AllocError) (s : RunningSeat) → k < length seats → IfOk (slice_index_or results k d) (IsFinished events (slice_index_or seats k s))

-- what the seats brought back: their texts one after another, and the seats
pub record AreGathered (results : List (Result Finished AllocError)) (text : List ℕ) (seats : List RunningSeat) : Type 0 where
  pub finished : List Finished
  pub all : results ≡ map Ok finished
  pub texts : text ≡ flat_map (λ f. f.text.items) finished
  pub ends : seats ≡ map (λ f. f.seat) finished

-- the report ends in the fault of a meeting
pub record EndsInFault (text : List ℕ) (fault : StoreMeetFault) (report : ReportText) : Type 0 where
  pub place : ℕ
  pub is : fault ≡ meet.Foreign place
  pub says : report ≡ foreign_report text place

-- ---- the meetings
-- the seat has met one other: what the other has seen begins what it has taken in; it has taken in all that it has seen, which is as long as the longer of what the two had seen
pub record MeetsOne (old other new : RunningSeat) : Type 0 where
  pub met : Begins other.pass.seen (taken_in new)
  pub all : new.taken ≡ length new.pass.seen
  pub longer : length new.pass.seen ≡ max (length old.pass.seen) (length other.pass.seen)

-- it has met these others
pub record MeetsAll (first : RunningSeat) (others : List RunningSeat) (last : RunningSeat) : Type 0 where
  pub met : All (λ (other : RunningSeat). Begins other.pass.seen (taken_in last)) others
  pub all : 0 < length others → last.taken ≡ length last.pass.seen
  pub reached : (k : ℕ) × (s : RunningSeat) × (slice_get (first ∷ others) k ≡ Some s) × (last.pass.seen ≡ s.pass.seen)

-- what a meeting with the other found, where it failed
abbrev pub MeetingFound : StoreMeetFault → RunningSeat → RunningSeat → Type 0
MeetingFound (meet.Foreign place) other new = HasFoundForeign place other new
MeetingFound meet.Memory other new = ⊤

-- what was found at one of the others
pub record MeetingsFound (fault : StoreMeetFault) (others : List RunningSeat) (last : RunningSeat) : Type 0 where
  pub index : ℕ
  pub other : RunningSeat
  pub is_other : slice_get others index ≡ Some other
  pub found : MeetingFound fault other last

-- the end of a report, after the text of the outcomes
abbrev pub EndsSo : List ℕ → RunningSeat → List RunningSeat → RunningSeat → ReportText → Type 0
EndsSo text first others last report =
    (MeetsAll first others last × (report ≡ graph_report text (replay (graph_of last.opening) (taken_in last))))
    ⊎ ((place : ℕ) × MeetingsFound (meet.Foreign place) others last × (report ≡ foreign_report text place))

-- The first seat goes on from where it was, has put nothing, and has met the others: the report ends with the graph that it has taken in. Or it found a record of its own number.
pub record EndsRace (text : List ℕ) (seats : List RunningSeat) (report : ReportText) : Type 0 where
  pub first : RunningSeat
  pub others : List RunningSeat
  pub are : seats ≡ first ∷ others
  pub last : RunningSeat
  pub goes_on : GoesOn first last
  pub nothing_put : PutsNothing first last
  pub seat : IsSeat last
  pub end : EndsSo text first others last report
