use Rattle.std.proofs.Common.{◌≡◌, true, sym, subst, ◌∙◌}
use Rattle.tg_hall.specs.Worlds.{is_short_of_memory, Happens}
use Rattle.tg_hall.proofs.GivingUp.{happens-short}
use Rattle.tg_hall.proofs.halls.Hall.happen.Goals as goal

pub returns-clause-happens : goal.returns-clause-happens
returns-clause-happens c =
    let w = c.args.self.now in
    let first = c.try_event-reply in
    let short : is_short_of_memory first.result ≡ true = sym c.is_short_of_memory.ensures ∙ c.if-not-is_short_of_memory.false in
    let same = c.give_up_known.ensures ∙ happens-short w first.new.self c.args.event.now first.result short first.ensures.happens in
    subst (λ w. Happens w c.args.event.now c.try_event.result c.try_event.new.self) same c.try_event.ensures.happens
