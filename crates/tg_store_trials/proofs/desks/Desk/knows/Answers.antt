use Rattle.std.proofs.Common.{ap}
use Rattle.tg_store_trials.specs.Chairs.{seat_in}
use Rattle.tg_store_trials.proofs.desks.Desk.knows.Goals as goal

pub at-requires : goal.at-requires
at-requires c = c.chair.ensures c.in-Free.seat (ap seat_in c.in-Free.is)
