use Rattle.std.proofs.Common.{◌≡◌, ℕ, ◌<◌, true, Some}
use Rattle.std.specs.Prelude.{slice_get}
use Rattle.tg_hall.specs.declared.records.Record.{Record}
use Rattle.tg_store.specs.Agreed.{has_number}
use Rattle.tg_store.proofs.stores.Store.all_own.Given as goal

abbrev pub invariant-loop-place : goal.invariant-loop-place
invariant-loop-place l = (i : ℕ) (r : Record) → i < l.place → slice_get l.seat.pass.seen i ≡ Some r → has_number l.seats r.seat ≡ true
