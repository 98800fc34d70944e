use Rattle.std.proofs.Common.{ap}
use Rattle.tg_store_trials.specs.Chairs.{seat_in}
use Rattle.tg_store_trials.proofs.desks.act.Goals as goal

pub act_free-chair-requires : goal.act_free-chair-requires
act_free-chair-requires c = c.requires.at c.in-Free.seat (ap seat_in c.in-Free.is)

pub act_busy-requires-clause-of : goal.act_busy-requires-clause-of
act_busy-requires-clause-of c = c.requires.at c.in-Busy.session.seat (ap seat_in c.in-Busy.is)
