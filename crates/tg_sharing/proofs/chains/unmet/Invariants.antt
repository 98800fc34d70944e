use Rattle.std.proofs.Common.{take}
use Rattle.tg_graph.specs.GraphOf.{graph_of}
use Rattle.tg_sharing.specs.Searches.{AreUnmetAt}
use Rattle.tg_sharing.proofs.chains.unmet.Given as goal

abbrev pub invariant-loop-position : goal.invariant-loop-position
invariant-loop-position l = AreUnmetAt (graph_of l.graph) l.met l.fn.vertex (take l.position-index l.near) l.names.items
