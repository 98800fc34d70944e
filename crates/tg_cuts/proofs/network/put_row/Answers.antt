use Rattle.std.proofs.Common.{◌≡◌, length, arith, subst}
use Rattle.tg_rows.specs.Rows.{row_number}
use Rattle.tg_cuts.specs.CutParts.{EdgesUpTo}
use Rattle.tg_cuts.proofs.FlowEdges.{edges-row}
use Rattle.tg_cuts.proofs.network.put_row.Goals as goal

pub returns : goal.returns
returns c =
    let sought = c.args.sought.now in
    let end : c.loop-place.place ≡ length (row_number c.args.graph.now c.args.position) = omega (arith, c.row_len-place-end.ensures) in
    edges-row c.args.graph.now sought.right sought.y sought.kept.now c.args.position c.loop-place.network (subst (λ n. EdgesUpTo c.args.graph.now sought.right sought.y sought.kept.now c.args.position n c.loop-place.network) end c.loop-place.invariant)
