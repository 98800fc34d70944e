use Rattle.std.proofs.Common.{◌-◌, ◌+◌, length}
use Rattle.tg_store.specs.Outcomes.{SessionGoesOn}
use Rattle.tg_store.specs.Attempts.{progress}
use Rattle.tg_store.proofs.running_sessions.Session.commit.Given as goal

abbrev pub invariant-loop-committed : goal.invariant-loop-committed
invariant-loop-committed l = SessionGoesOn l.fn.self l.session

abbrev pub decreases-loop-committed : goal.decreases-loop-committed
decreases-loop-committed l = length l.session.seat.pass.cells + length l.session.seat.pass.cells - progress l.session
