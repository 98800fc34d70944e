-- To lie in one island is an equivalence of vertices.
use Rattle.std.proofs.Common.{◌≡◌, Bool, true, false, ◌||◌, List, [], ◌∷◌, refl, sym, subst, IsTrue}
use Rattle.tg_names.specs.declared.right_sets.Right.TheVariants.{T, G}
use Rattle.tg_names.specs.Names.{Name}
use Rattle.tg_graph.specs.Graphs.{ProtectionGraph, has_vertex}
use Rattle.tg_islands.specs.Sharing.{linked, IsChain, InOneIsland}

pub linked_sym : (g : ProtectionGraph) (u v : Name) → IsTrue (linked g u v) → IsTrue (linked g v u)
linked_sym g u v = turn (g.holds u T v) (g.holds u G v) (g.holds v T u) (g.holds v G u)
  where
    turn : (a b c d : Bool) → (a || b || c || d) ≡ true → (c || d || a || b) ≡ true
    turn a b true d h = refl
    turn a b false true h = refl
    turn true b false false h = refl
    turn false true false false h = refl
    turn false false false false h = h

pub island_refl : (g : ProtectionGraph) (u : Name) → IsTrue (has_vertex g u) → InOneIsland g u u
island_refl g u h = ([], (refl, h))

pub starts : (g : ProtectionGraph) (u : Name) (ws : List Name) (v : Name) → IsChain g u ws v → IsTrue (has_vertex g u)
starts g u [] v c = c.1
starts g u (w ∷ ws) v c = c.0

pub island_link : (g : ProtectionGraph) (u v : Name) → IsTrue (has_vertex g u) → IsTrue (has_vertex g v) → IsTrue (linked g u v) → InOneIsland g u v
island_link g u v hu hv l = (v ∷ [], (hu, l, (refl, hv)))

pub island_trans : (g : ProtectionGraph) (u v w : Name) → InOneIsland g u v → InOneIsland g v w → InOneIsland g u w
island_trans g u v w a b = go u a.0 a.1
  where
    go : (u : Name) (ws : List Name) → IsChain g u ws v → InOneIsland g u w
    go u [] c = subst (λ t. InOneIsland g t w) (sym c.0) b
    go u (t ∷ ts) c = let r = go t ts c.2 in (t ∷ r.0, (c.0, c.1, r.1))

pub island_sym : (g : ProtectionGraph) (u v : Name) → InOneIsland g u v → InOneIsland g v u
island_sym g u v a = go u a.0 a.1
  where
    go : (u : Name) (ws : List Name) → IsChain g u ws v → InOneIsland g v u
    go u [] c = subst (λ t. InOneIsland g t u) c.0 (island_refl g u c.1)
    go u (t ∷ ts) c = island_trans g v t u (go t ts c.2) (island_link g t u (starts g t ts v c.2) c.0 (linked_sym g u t c.1))
