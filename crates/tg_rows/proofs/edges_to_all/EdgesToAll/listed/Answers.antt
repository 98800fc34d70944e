use Rattle.std.proofs.Common.{◌<◌, ◌∙◌, [], Some, sym, ap, arith, length}
use Rattle.std.specs.List.{insert}
use Rattle.std.proofs.lemmas.Option.{slice_get-get_or}
use Rattle.tg_names.specs.Sets.{nothing}
use Rattle.tg_rows.proofs.EdgeLists.{take_one}
use Rattle.tg_rows.proofs.edges_to_all.EdgesToAll.listed.Goals as goal

pub loop-place-preserved : goal.loop-place-preserved
loop-place-preserved c =
    let edges = c.args.self.now in
    let place = c.loop-place.place in
    let within : place < length edges = omega (arith, c.loop-place-test.true) in
    c.in_ok-put.ensures.put
    ∙ ap (λ l. insert l place (c.target.result, c.label.result)) c.loop-place.invariant
    ∙ take_one edges place (c.target.result, c.label.result)
    (slice_get-get_or edges place ([], nothing) within ∙ sym (λ i. Some (c.target.ensures ([], nothing) i, c.label.ensures ([], nothing) i)))
