use Rattle.std.proofs.Common.{ap}
use Rattle.tg_hall.specs.Worlds.{SeatView}
use Rattle.tg_hall.proofs.SeatLemmas.{rests-next}
use Rattle.tg_hall.proofs.seats.SeatState.take_in.Goals as goal

pub returns-in-Ok-clause-rests : goal.returns-in-Ok-clause-rests
returns-in-Ok-clause-rests c g history is h =
    rests-next g history c.args.self.now c.advance.new.self c.args.next.now is (ap (λ (s : SeatView). s.taken) c.in-Ok.ensures.seen) c.in-Ok.ensures.graph h
