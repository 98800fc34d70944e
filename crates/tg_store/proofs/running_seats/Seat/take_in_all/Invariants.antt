use Rattle.std.proofs.Common.{◌≡◌}
use Rattle.tg_store.specs.Running.{IsSeat, GoesOn}
use Rattle.tg_store.proofs.running_seats.Seat.take_in_all.Given as goal

abbrev pub invariant-loop : goal.invariant-loop
invariant-loop l = record {
  goes_on : GoesOn l.fn.self l.self;
  pass : l.self.pass ≡ l.fn.self.pass;
  taken : l.self.taken ≡ l.counter;
  seat : IsSeat l.self;
}
