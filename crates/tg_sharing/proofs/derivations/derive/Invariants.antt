use Rattle.std.proofs.Common.{◌≡◌, take}
use Rattle.tg_names.specs.Letters.{all_rights}
use Rattle.tg_graph.specs.GraphOf.{graph_of}
use Rattle.tg_sharing.specs.Searches.{IsSearching}
use Rattle.tg_sharing.specs.SetDerivations.{HasParts}
use Rattle.tg_sharing.proofs.derivations.derive.Given as goal

abbrev pub invariant-loop-right : goal.invariant-loop-right
invariant-loop-right l =
    record {
      searching : IsSearching (graph_of l.graph) l.search;
      start : l.search.start ≡ l.fn.x;
      parts : HasParts (graph_of l.graph) l.rights l.fn.x l.y (take l.right-index all_rights) l.rules.items l.next;
    }
