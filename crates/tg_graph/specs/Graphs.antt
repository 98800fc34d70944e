-- Protection graphs: a finite set of names, and a set of triples (x, right, y).
use Rattle.std.specs.Prelude.{◌≡◌, ℕ, Bool, IsTrue, List}
use Rattle.std.specs.List.{list_any}
use Rattle.tg_names.specs.Names.{Name, same_name, IsName}
use Rattle.tg_names.specs.declared.right_sets.Right.{Right}

-- the vertices in order of insertion, and of each triple whether it is there
pub record ProtectionGraph : Type 0 where
  pub vertices : List Name
  pub holds : Name → Right → Name → Bool

abbrev pub has_vertex : ProtectionGraph → Name → Bool
has_vertex g v = list_any (same_name v) g.vertices

-- the same vertices, and the same triples
pub record SameGraph (g h : ProtectionGraph) : Type 0 where
  pub vertices : (v : Name) → has_vertex g v ≡ has_vertex h v
  pub triples : (u : Name) (right : Right) (v : Name) → g.holds u right v ≡ h.holds u right v

-- each vertex has a name, and each triple goes between vertices
pub record WellFormed (g : ProtectionGraph) : Type 0 where
  pub names : (v : Name) → IsTrue (has_vertex g v) → IsName v
  pub ends : (u : Name) (right : Right) (v : Name) → IsTrue (g.holds u right v) → IsTrue (has_vertex g u) × IsTrue (has_vertex g v)
