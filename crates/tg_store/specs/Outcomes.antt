-- What the calls of a running store answer, and what each answer says of the seat before and after it.
use Rattle.std.specs.Prelude.{◌≡◌, ℕ, ◌+◌, ◌≤◌, ◌<◌, List, [], ◌∷◌, ◌++◌, length, max, slice_get, Some, None, ⊤}
use Rattle.tg_rows.specs.Rows.{Entries}
use Rattle.tg_names.specs.Names.{Name}
use Rattle.tg_graph.specs.GraphOf.{graph_of}
use Rattle.tg_journal.specs.declared.answers.JournalFault.{JournalFault}
use Rattle.tg_journal.specs.declared.answers.JournalFault.TheVariants as journal
use Rattle.tg_journal.specs.declared.answers.MeetFault.TheVariants as pass_meet
use Rattle.tg_journal.specs.Front.{FrontState}
use Rattle.tg_journal.specs.Pass.{PassState, KnowsFromAsBefore}
use Rattle.tg_journal.specs.Answers.{IsForeign, MeetFaultSays as PassMeetFaultSays}
use Rattle.tg_hall.specs.declared.answers.Answered.{Answered}
use Rattle.tg_hall.specs.declared.records.Record.{Record}
use Rattle.tg_hall.specs.declared.events.StoreFault.{StoreFault}
use Rattle.tg_hall.specs.declared.events.StoreFault.TheVariants as start
use Rattle.tg_store.specs.declared.outcomes.Begun.{Begun}
use Rattle.tg_store.specs.declared.outcomes.Begun.TheVariants as begun
use Rattle.tg_store.specs.declared.outcomes.BeginFault.{BeginFault}
use Rattle.tg_store.specs.declared.outcomes.BeginFault.TheVariants as begin
use Rattle.tg_store.specs.declared.outcomes.Committed.{Committed}
use Rattle.tg_store.specs.declared.outcomes.Committed.TheVariants as committed
use Rattle.tg_store.specs.declared.outcomes.CommitFault.{CommitFault}
use Rattle.tg_store.specs.declared.outcomes.CommitFault.TheVariants as commit
use Rattle.tg_store.specs.declared.outcomes.StoreMeetFault.{StoreMeetFault}
use Rattle.tg_store.specs.declared.outcomes.StoreMeetFault.TheVariants as meet
use Rattle.tg_hall.specs.Touches.{IsClear, IsSpoilt, IsOvercrowded}
use Rattle.tg_hall.specs.Worlds.{opening_fault}
use Rattle.tg_store.specs.Running.{RunningSeat, RunningSession, seat_number, seen_graph, IsSeat, IsSession, KnowsNoMore, GoesOn, PutsNothing}

-- why no store is made, where its journal is refused so
abbrev pub told_fault : JournalFault → StoreFault
told_fault journal.Cells = start.Cells
told_fault journal.Seats = start.Seats
told_fault journal.Memory = start.Memory

-- why no store is made
abbrev pub StartFaultSays : Entries → ℕ → ℕ → StoreFault → Type 0
StartFaultSays rows cells seats start.Memory = opening_fault (graph_of rows) cells seats ≡ None
StartFaultSays rows cells seats fault = opening_fault (graph_of rows) cells seats ≡ Some fault

-- the seat's pass knows a record of its own number at the first place that it has not seen
abbrev pub FindsForeign : ℕ → RunningSeat → Type 0
FindsForeign place s = IsForeign seat_number place s.pass

-- ---- begin
abbrev pub BeginFaultSays : BeginFault → RunningSeat → Type 0
BeginFaultSays (begin.Foreign place) new = FindsForeign place new
BeginFaultSays begin.Memory new = ⊤

-- a session without steps on all that its seat has seen, and the seat knows of no record at the next place; or the seat again
abbrev pub BeginSays : RunningSeat → Begun → Type 0
BeginSays old (begun.Session s) = GoesOn old s.seat × PutsNothing old s.seat × (s.steps ≡ []) × (s.seat.taken ≡ length s.seat.pass.seen) × IsSession s × KnowsNoMore s.seat
BeginSays old (begun.Refused new fault) = GoesOn old new × PutsNothing old new × BeginFaultSays fault new × IsSeat new

-- ---- commit
-- no record at a place from the first number on and before the second spoils or crowds a session with these steps
abbrev pub NoneObstructs : RunningSeat → List Answered → ℕ → ℕ → Type 0
NoneObstructs s steps from to = (place : ℕ) (r : Record) → from ≤ place → place < to → slice_get s.pass.seen place ≡ Some r → IsClear (seen_graph s place) r.steps (Some steps)

-- the record at the place spoils a session with these steps, by this name
abbrev pub IsSpoiltAt : RunningSeat → List Answered → ℕ → Name → Type 0
IsSpoiltAt s steps place name = (r : Record) × (slice_get s.pass.seen place ≡ Some r) × IsSpoilt (seen_graph s place) r.steps (Some steps) name

-- it crowds it
abbrev pub IsCrowdedAt : RunningSeat → List Answered → ℕ → Type 0
IsCrowdedAt s steps place = (r : Record) × (slice_get s.pass.seen place ≡ Some r) × IsOvercrowded (seen_graph s place) r.steps (Some steps)

-- why a session with these steps was not put
abbrev pub CommitFaultSays : List Answered → CommitFault → RunningSeat → Type 0
CommitFaultSays steps (commit.Changed place name) new = (new.taken ≡ place) × (place < length new.pass.seen) × IsSpoiltAt new steps place name
CommitFaultSays steps (commit.Crowded place) new = (new.taken ≡ place) × (place < length new.pass.seen) × IsCrowdedAt new steps place
CommitFaultSays steps commit.JournalFull new = (new.taken ≡ length new.pass.seen) × (length new.pass.seen ≡ length new.pass.cells)
CommitFaultSays steps (commit.Foreign place) new = (new.taken ≡ length new.pass.seen) × FindsForeign place new

-- the session was put: its record stands at the place, under its seat's number and the count of its earlier commits, and all is taken in
pub record IsPut (old : RunningSession) (place : ℕ) (new : RunningSeat) : Type 0 where
  pub stands : slice_get new.pass.seen place ≡ Some (record { seat = old.seat.pass.number; number = length old.seat.pass.mine; steps = old.steps })
  pub mine : new.pass.mine ≡ old.seat.pass.mine ++ place ∷ []
  pub last : length new.pass.seen ≡ place + 1
  pub taken : new.taken ≡ place + 1

-- the session goes on with the same steps: its seat has put nothing, and no record that it has taken in obstructs it
abbrev pub SessionGoesOn : RunningSession → RunningSession → Type 0
SessionGoesOn old s =
    GoesOn old.seat s.seat × PutsNothing old.seat s.seat × NoneObstructs s.seat old.steps old.seat.taken s.seat.taken × (s.steps ≡ old.steps) × IsSession s

-- where the seat has taken in all that it has seen, it has seen fewer records than there are cells
abbrev pub HasFreeCell : RunningSeat → Type 0
HasFreeCell s = s.taken ≡ length s.pass.seen → length s.pass.seen < length s.pass.cells

abbrev pub CommitSays : RunningSession → Committed → Type 0
CommitSays old (committed.Done new receipt) =
    GoesOn old.seat new × IsPut old receipt.place new × NoneObstructs new old.steps old.seat.taken receipt.place × IsSeat new
CommitSays old (committed.Refused new fault) =
    GoesOn old.seat new × PutsNothing old.seat new × NoneObstructs new old.steps old.seat.taken new.taken × CommitFaultSays old.steps fault new × IsSeat new
CommitSays old (committed.Again s) = SessionGoesOn old s × HasFreeCell s.seat

-- ---- meet
abbrev pub MeetFaultSays : StoreMeetFault → RunningSeat → Type 0
MeetFaultSays (meet.Foreign place) new = FindsForeign place new
MeetFaultSays meet.Memory new = ⊤

-- a pass that has met a front has seen the longer of what the two had seen, and has learnt of no further cell
pub record HasSeenLonger (front : FrontState Record) (old new : PassState Record) : Type 0 where
  pub longer : length new.seen ≡ max (length old.seen) (length front.seen)
  pub others : KnowsFromAsBefore (length new.seen) old new

-- where a meeting ends: at the front's record that the seat can't have, before which it has seen all that the front has; or, for want of memory, with all seen
abbrev pub MeetingEnds : StoreMeetFault → FrontState Record → PassState Record → PassState Record → Type 0
MeetingEnds (meet.Foreign place) front old new = PassMeetFaultSays seat_number (pass_meet.Foreign place) front old new
MeetingEnds meet.Memory front old new = HasSeenLonger front old new
