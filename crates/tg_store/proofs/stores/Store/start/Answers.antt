use Rattle.std.proofs.Common.{◌+◌, ap, ◌∙◌, arith}
use Rattle.std.specs.Prelude.{slice_get}
use Rattle.std.specs.Option.{option_map}
use Rattle.std.proofs.lemmas.Option.{slice_get-map, get_or_from_slice_get}
use Rattle.tg_journal.specs.Pass.{PassState, fresh}
use Rattle.tg_hall.specs.declared.records.Record.{Record}
use Rattle.tg_store.specs.Running.{seat_from}
use Rattle.tg_store.proofs.stores.Store.start.Goals as goal

pub seats_of-requires : goal.seats_of-requires
seats_of-requires c k d lt =
    let made = c.in-Ok.made in
    let e = get_or_from_slice_get made.1.items k (fresh made.0 (k + 1)) d (c.in-Ok.ensures.fresh k (let n = c.in-Ok.ensures.passes in omega (arith, lt, n))) in
    (c.in-Ok.ensures.each k d lt, ap (λ (p : PassState Record). p.seen) e, ap (λ (p : PassState Record). p.mine) e)

pub returns-clause-seats : goal.returns-clause-seats
returns-clause-seats c k lt =
    let made = c.in-Ok.made in
    let f = seat_from c.in_ok-opening.opening.value in
    ap (λ seats. slice_get seats k) c.in_ok-seats.ensures ∙ slice_get-map f made.1.items k ∙ ap (option_map f) (c.in-Ok.ensures.fresh k lt)
