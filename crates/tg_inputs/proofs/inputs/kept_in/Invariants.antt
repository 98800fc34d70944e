use Rattle.std.proofs.Common.{◌≡◌, length, map}
use Rattle.tg_graph.specs.GraphOf.{graph_of}
use Rattle.tg_inputs.specs.Readings.{kept_in}
use Rattle.tg_inputs.specs.Outcomes.{HaveEnds}
use Rattle.tg_inputs.proofs.KeptEdges.{kept_from}
use Rattle.tg_inputs.proofs.inputs.kept_in.Given as goal

abbrev pub invariant-loop-left : goal.invariant-loop-left
invariant-loop-left l = record {
  made : kept_from (graph_of l.graph) l.kept.items (map (λ word. word.now) l.left) ≡ kept_in (graph_of l.graph) (map (λ word. word.now) l.fn.words);
  known : HaveEnds (graph_of l.graph) l.kept.items;
}

abbrev pub decreases-loop-left : goal.decreases-loop-left
decreases-loop-left l = length l.left
