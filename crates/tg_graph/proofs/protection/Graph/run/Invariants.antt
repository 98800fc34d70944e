use Rattle.std.proofs.Common.{take}
use Rattle.tg_graph.specs.GraphOf.{graph_of}
use Rattle.tg_graph.specs.Additions.{Leads}
use Rattle.tg_graph.proofs.protection.Graph.run.Given as goal

abbrev pub invariant-loop-i : goal.invariant-loop-i
invariant-loop-i l = Leads (graph_of l.fn.self) (take l.i l.rules) (graph_of l.self)
