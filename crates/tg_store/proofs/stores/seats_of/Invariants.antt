use Rattle.std.proofs.Common.{◌≡◌, ◌++◌, map}
use Rattle.tg_store.specs.Running.{seat_from}
use Rattle.tg_store.proofs.stores.seats_of.Given as goal

abbrev pub invariant-loop-pass : goal.invariant-loop-pass
invariant-loop-pass l = record {
  made : l.seats.items ≡ map (seat_from l.opening.value) l.yielded;
  left : l.yielded ++ l.pass-iterator.rest.items ≡ l.fn.passes.items;
}
