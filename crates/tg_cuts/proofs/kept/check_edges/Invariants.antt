use Rattle.tg_graph.specs.GraphOf.{graph_of}
use Rattle.tg_cuts.proofs.KeptEnds.{AreKnownTo}
use Rattle.tg_cuts.proofs.kept.check_edges.Given as goal

abbrev pub invariant-loop-edge : goal.invariant-loop-edge
invariant-loop-edge l = AreKnownTo (graph_of l.graph) l.edges l.edge-index
