use Rattle.std.proofs.Common.{◌≤◌, ◌-◌, length}
use Rattle.std.specs.Map.{keys_of}
use Rattle.tg_graph.specs.GraphOf.{graph_of}
use Rattle.tg_sharing.specs.Searches.{HasNoHolder, SearchesOn}
use Rattle.tg_sharing.proofs.chains.Search.chain_to.Given as goal

abbrev pub invariant-loop-visit : goal.invariant-loop-visit
invariant-loop-visit l =
    record {
      on : SearchesOn (graph_of l.graph) l.initial.self l.self;
      none : HasNoHolder (graph_of l.graph) l.right l.y l.self.met l.place;
      behind : l.place ≤ l.self.rounds;
    }

abbrev pub decreases-loop-visit : goal.decreases-loop-visit
decreases-loop-visit l = length (keys_of l.graph) - l.place
