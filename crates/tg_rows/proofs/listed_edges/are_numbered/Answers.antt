use Rattle.std.proofs.Common.{◌≡◌, get_or, slice_get, Some, sym, ap, ◌∙◌, arith}
use Rattle.std.proofs.lemmas.Option.{slice_get-get_or}
use Rattle.tg_rows.specs.declared.listed_edges.Edge.{Edge}
use Rattle.tg_rows.specs.EdgeLists.{names_of, number_of}
use Rattle.tg_rows.proofs.EdgeLists.{numbered-next}
use Rattle.tg_rows.proofs.listed_edges.are_numbered.Goals as goal

pub loop-edge-preserved : goal.loop-edge-preserved
loop-edge-preserved c =
    let edges = c.args.edges.now in
    let i = c.loop-edge.edge-index in
    let edge : Edge = get_or edges i (record { bits = 0 }) in
    let names = c.args.names.now in
    let others = names_of c.args.targets.now in
    let name = c.in-Some.name in
    let there : slice_get names (number_of edge) ≡ Some name = ap (slice_get names) (sym c.number.ensures) ∙ sym c.at.ensures ∙ c.in-Some.is in
    let here : slice_get others (number_of edge) ≡ Some name = ap (slice_get others) (sym c.number-in-loop-edge.ensures) ∙ c.is_at.ensures c.if-not-is_at.false in
    numbered-next others names edges i edge name (slice_get-get_or edges i (record { bits = 0 }) (omega (arith, c.loop-edge-test.true))) there here c.loop-edge.invariant
