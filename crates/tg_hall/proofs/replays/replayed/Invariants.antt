use Rattle.std.proofs.Common.{◌≡◌, take}
use Rattle.tg_graph.specs.GraphOf.{graph_of}
use Rattle.tg_hall.specs.Histories.{replay}
use Rattle.tg_hall.proofs.replays.replayed.Given as goal

abbrev pub invariant-loop-record : goal.invariant-loop-record
invariant-loop-record l = graph_of l.graph ≡ replay (graph_of l.fn.opening) (take l.record-index l.records)
