use Rattle.std.proofs.Common.{◌≡◌, length, arith, subst}
use Rattle.tg_rows.specs.Rows.{row_number}
use Rattle.tg_islands.specs.Linked.{LinksUpTo}
use Rattle.tg_islands.proofs.Linked.{links-row}
use Rattle.tg_islands.proofs.links.Links.add_row.Goals as goal

pub returns : goal.returns
returns c =
    let end : c.loop-place.place ≡ length (row_number c.args.graph.now c.args.position) = omega (arith, c.row_len-place-end.ensures) in
    links-row c.args.graph.now c.args.position c.loop-place.self (subst (LinksUpTo c.args.graph.now c.loop-place.self c.args.position) end c.loop-place.invariant)
