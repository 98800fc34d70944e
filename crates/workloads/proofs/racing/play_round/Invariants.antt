use Rattle.std.proofs.Common.{◌≡◌, ◌++◌, All}
use Rattle.tg_store.specs.Running.{IsOf}
use Rattle.workloads.proofs.racing.play_round.Given as goal

abbrev pub invariant-loop-seat : goal.invariant-loop-seat
invariant-loop-seat l = record {
  played : All (IsOf l.store) l.played.items;
  left : l.yielded ++ l.seat-iterator.rest.items ≡ l.fn.seats.items;
}
