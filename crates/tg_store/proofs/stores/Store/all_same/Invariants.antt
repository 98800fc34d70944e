use Rattle.std.proofs.Common.{◌≡◌, ℕ, ◌<◌, Some}
use Rattle.std.specs.Prelude.{slice_get}
use Rattle.tg_store.specs.Running.{RunningSeat}
use Rattle.tg_store.proofs.stores.Store.all_same.Given as goal

abbrev pub invariant-loop-seat : goal.invariant-loop-seat
invariant-loop-seat l = (i : ℕ) (s : RunningSeat) → i < l.seat-index → slice_get l.seats i ≡ Some s → s.pass.seen ≡ l.first.pass.seen
