use Rattle.std.proofs.Common.{take}
use Rattle.tg_rows.specs.EdgeLists.{NoneHas}
use Rattle.tg_rows.proofs.listed_edges.label_with_number.Given as goal

abbrev pub invariant-loop-edge : goal.invariant-loop-edge
invariant-loop-edge l = NoneHas (take l.edge-index l.edges) l.number
