use Rattle.std.proofs.Common.{◌≡◌}
use Rattle.workloads.proofs.racing.stage_all.Given as goal

abbrev pub invariant-loop : goal.invariant-loop
invariant-loop l = l.session.seat ≡ l.initial.session.seat
