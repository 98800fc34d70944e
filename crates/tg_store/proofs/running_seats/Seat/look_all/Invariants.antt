use Rattle.tg_store.proofs.RunningSeats.{Looked, left_after}
use Rattle.tg_store.proofs.running_seats.Seat.look_all.Given as goal

abbrev pub invariant-loop-look : goal.invariant-loop-look
invariant-loop-look l = Looked l.fn.self l.look l.self

abbrev pub decreases-loop-look : goal.decreases-loop-look
decreases-loop-look l = left_after l.look l.self
