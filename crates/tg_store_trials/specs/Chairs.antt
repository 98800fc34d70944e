-- Where the two seats of a desk are.
use Rattle.std.specs.Prelude.{Option, Some, None}
use Rattle.std.specs.Option.{ForSome}
use Rattle.tg_store.specs.Running.{RunningStore, RunningSeat, IsOf}
use Rattle.tg_store_trials.specs.declared.desks.Chair.{Chair}
use Rattle.tg_store_trials.specs.declared.desks.Chair.TheVariants.{Free, Busy, Empty}

-- the seat in the chair, free or in a session
abbrev pub seat_in : Chair → Option RunningSeat
seat_in (Free seat) = Some seat
seat_in (Busy session) = Some session.seat
seat_in Empty = None

-- who sits in the chair is a seat of the store
abbrev pub IsAt : RunningStore → Chair → Type 0
IsAt store chair = ForSome (seat_in chair) (IsOf store)
