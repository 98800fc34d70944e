use Rattle.std.proofs.Common.{◌≡◌, take, drop}
use Rattle.tg_graph.specs.GraphOf.{graph_of}
use Rattle.tg_islands.specs.Sharing.{IsChain}
use Rattle.tg_sharing.specs.Derivations.{IsCarried, end_of}
use Rattle.tg_sharing.proofs.derivations.carry.Given as goal

abbrev pub invariant-loop-p : goal.invariant-loop-p
invariant-loop-p l =
    record {
      carried : IsCarried (graph_of l.graph) l.right l.y l.fn.holder (take l.p-index l.links) l.fn.rules.items l.rules.items l.fn.next l.number;
      here : l.q ≡ end_of l.fn.holder (take l.p-index l.links);
      joined : IsChain (graph_of l.graph) l.q (drop l.p-index l.links) (end_of l.fn.holder l.links);
    }
