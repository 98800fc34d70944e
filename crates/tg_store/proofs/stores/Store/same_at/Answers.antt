use Rattle.std.proofs.Common.{Some, sym, ap, ◌∙◌}
use Rattle.tg_hall.specs.Sameness.{record_same}
use Rattle.tg_store.proofs.Agreeing.{some_is}
use Rattle.tg_store.proofs.stores.Store.same_at.Goals as goal

pub returns : goal.returns
returns c =
    let stored = c.in-Some.stored.now in
    let found = c.in-Some-at.found.now in (
      (λ t. sym c.in-Some-at.ensures ∙ ap Some ((record_same found stored).0 (sym c.eq.ensures ∙ t)) ∙ c.in-Some.ensures),
      (λ e. c.eq.ensures ∙ (record_same found stored).1 (some_is found stored (c.in-Some-at.ensures ∙ e ∙ sym c.in-Some.ensures))),
    )
