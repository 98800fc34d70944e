use Rattle.std.proofs.Common.{◌≡◌, ℕ, ◌<◌}
use Rattle.std.specs.Prelude.{slice_get}
use Rattle.tg_store.proofs.stores.Store.same_seen.Given as goal

abbrev pub invariant-loop-place : goal.invariant-loop-place
invariant-loop-place l = (i : ℕ) → i < l.place → slice_get l.other.pass.seen i ≡ slice_get l.one.pass.seen i
