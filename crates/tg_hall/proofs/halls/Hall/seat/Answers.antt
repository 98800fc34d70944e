use Rattle.std.proofs.Common.{sym, ap, ◌∙◌, refl}
use Rattle.tg_hall.specs.Worlds.{seat_of}
use Rattle.tg_hall.proofs.HallLemmas.{view_seat}
use Rattle.tg_hall.proofs.halls.Hall.seat.Goals as goal

pub returns-clause-seen : goal.returns-clause-seen
returns-clause-seen c =
    let k = c.args.number in
    sym (ap (λ w. seat_of w k) (sym c.self.view_is) ∙ view_seat c.self.inside k k c.in_ok-i.i c.len.result c.index.result.now refl c.in_ok-i.ensures.0 c.in_ok-i.ensures.1 (c.len.ensures ∙ c.self.inside.seats.ok.0) c.index.ensures)
