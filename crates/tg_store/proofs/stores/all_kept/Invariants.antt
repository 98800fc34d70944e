use Rattle.std.proofs.Common.{ℕ, ◌<◌, get_or}
use Rattle.tg_store.specs.Running.{RunningSeat, IsSeat}
use Rattle.tg_store.proofs.stores.all_kept.Given as goal

abbrev pub invariant-loop-seat : goal.invariant-loop-seat
invariant-loop-seat l = (i : ℕ) (d : RunningSeat) → i < l.seat-index → IsSeat (get_or l.seats i d)
