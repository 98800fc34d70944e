-- A set of vertices that each link leads on in has the islands of its vertices.
use Rattle.std.proofs.Common.{List, [], ◌∷◌, subst, IsTrue}
use Rattle.tg_names.specs.Names.{Name}
use Rattle.tg_islands.specs.Sharing.{IsChain, FloodHasIsland}
use Rattle.tg_islands.proofs.OneIsland.{starts}

pub flood_has_island : FloodHasIsland
flood_has_island g met u v on here chain = go u chain.0 here chain.1
  where
    go : (u : Name) (ws : List Name) → IsTrue (met u) → IsChain g u ws v → IsTrue (met v)
    go u [] h c = subst (λ w. IsTrue (met w)) c.0 h
    go u (w ∷ ws) h c = go w ws (on u w h (starts g w ws v c.2) c.1) c.2
