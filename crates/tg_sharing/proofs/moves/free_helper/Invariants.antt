use Rattle.std.proofs.Common.{◌≡◌, ℕ, ◌+◌, ◌-◌, ◌<◌, ◌≤◌, true, length}
use Rattle.tg_names.specs.Names.{helper_name}
use Rattle.tg_graph.specs.Graphs.{has_vertex}
use Rattle.tg_graph.specs.GraphOf.{graph_of}
use Rattle.tg_sharing.proofs.moves.free_helper.Given as goal

abbrev pub invariant-loop-number : goal.invariant-loop-number
invariant-loop-number l =
    record {
      from : l.next ≤ l.number;
      within : l.number ≤ l.next + length l.graph;
      used : (k : ℕ) → l.next ≤ k → k < l.number → has_vertex (graph_of l.graph) (helper_name k) ≡ true;
    }

abbrev pub decreases-loop-number : goal.decreases-loop-number
decreases-loop-number l = l.next + length l.graph - l.number
