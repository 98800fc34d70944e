use Rattle.tg_store.specs.Running.{IsOf}
use Rattle.tg_store_meeting_tests.proofs.meeting_tests.fill.Given as goal

abbrev pub invariant-loop-k : goal.invariant-loop-k
invariant-loop-k l = IsOf l.store l.seat
