use Rattle.std.proofs.Common.{take}
use Rattle.tg_graph.specs.GraphOf.{graph_of}
use Rattle.tg_sharing.specs.Searches.{Meets}
use Rattle.tg_sharing.proofs.chains.go_round.Given as goal

abbrev pub invariant-loop-name : goal.invariant-loop-name
invariant-loop-name l = Meets (graph_of l.fn.graph) l.fn.place l.fn.met l.met (take l.name-index l.name-items)
