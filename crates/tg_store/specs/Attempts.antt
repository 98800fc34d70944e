-- One attempt to commit a session.
use Rattle.std.specs.Prelude.{◌≡◌, ℕ, ◌+◌, ◌<◌, length, slice_get, Some, ⊤}
use Rattle.tg_hall.specs.declared.records.Record.{Record}
use Rattle.tg_store.specs.declared.weighing.Weighed.{Weighed}
use Rattle.tg_store.specs.declared.weighing.Weighed.TheVariants.{Clear, Ends}
use Rattle.tg_store.specs.declared.outcomes.Committed.{Committed}
use Rattle.tg_store.specs.declared.outcomes.Committed.TheVariants.{Done, Refused, Again}
use Rattle.tg_store.specs.declared.running_sessions.Attempt.{Attempt}
use Rattle.tg_store.specs.declared.running_sessions.Attempt.TheVariants.{Over, Further}
use Rattle.tg_store.specs.Running.{RunningSession}
use Rattle.tg_store.specs.Weighing.{Weighs}
use Rattle.tg_store.specs.Outcomes.{SessionGoesOn, CommitSays}

-- the next record that the seat has not taken in is this to the session
abbrev pub IsNext : RunningSession → Weighed → Type 0
IsNext s weighed = (r : Record) × (slice_get s.seat.pass.seen s.seat.taken ≡ Some r) × Weighs s.seat.graph s.seat.taken r.steps s.steps weighed

-- how far a session has come: what its seat has seen, and what it has taken in
abbrev pub progress : RunningSession → ℕ
progress s = length s.seat.pass.seen + s.seat.taken

-- want of memory leaves the session as it was before the attempt
abbrev pub IsLeftBy : RunningSession → Committed → Type 0
IsLeftBy old (Done new receipt) = ⊤
IsLeftBy old (Refused new fault) = ⊤
IsLeftBy old (Again s) = s ≡ old

-- the commit is over, or the session goes on, one record further
abbrev pub AttemptSays : RunningSession → Attempt → Type 0
AttemptSays old (Over answer) = CommitSays old answer × IsLeftBy old answer
AttemptSays old (Further s) = SessionGoesOn old s × (progress old < progress s)

-- a record that ends the session ends it, and is not taken for want of memory
abbrev pub EndsBy : RunningSession → Weighed → Attempt → Type 0
EndsBy old (Clear draft) attempt = ⊤
EndsBy old (Ends fault) attempt = attempt ≡ Over (Refused old.seat fault)
