use Rattle.std.proofs.Common.{take}
use Rattle.tg_rows.specs.EdgeLists.{names_of, AreNumbered}
use Rattle.tg_rows.proofs.listed_edges.are_numbered.Given as goal

abbrev pub invariant-loop-edge : goal.invariant-loop-edge
invariant-loop-edge l = AreNumbered (names_of l.targets) l.names (take l.edge-index l.edges)
