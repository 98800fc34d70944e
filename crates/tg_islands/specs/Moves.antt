-- Which rules carry a right over a link, and along which links.
use Rattle.std.specs.Prelude.{◌≡◌, ℕ, ◌<◌, ◌≤◌, IsTrue, IsFalse, List, [], ◌∷◌, ◌++◌, length}
use Rattle.tg_names.specs.declared.right_sets.Right.{Right}
use Rattle.tg_names.specs.declared.right_sets.Right.TheVariants.{T, G}
use Rattle.tg_names.specs.declared.right_sets.Rights.{Rights}
use Rattle.tg_graph.specs.declared.rules.Rule.{Rule}
use Rattle.tg_graph.specs.declared.rules.Rule.TheVariants.{Take, Grant, Create}
use Rattle.tg_names.specs.Names.{helper_name, Name}
use Rattle.tg_names.specs.Sets.{bit_of}
use Rattle.tg_graph.specs.Graphs.{ProtectionGraph, has_vertex}
use Rattle.tg_graph.specs.RuleLists.{AllAccepted, after_all}
use Rattle.tg_islands.specs.Sharing.{IsChain}
use Rattle.std.specs.Prelude.{◌^◌}

-- the set of one right
abbrev pub only : Right → Rights
only right = record { 0 = 2 ^ bit_of right }

abbrev pub take_and_grant : Rights
take_and_grant = record { 0 = 3 }

-- rules that are accepted, take nothing away, and make these vertices
pub record Extends (g : ProtectionGraph) (rules : List Rule) (made : List Name) : Type 0 where
  pub accepted : AllAccepted g rules
  pub vertices : (after_all g rules).vertices ≡ g.vertices ++ made
  pub triples : (u : Name) (right : Right) (v : Name) → IsTrue (g.holds u right v) → IsTrue ((after_all g rules).holds u right v)

-- the least number whose helper's name is not in use
pub record IsLeastHelper (g : ProtectionGraph) (k : ℕ) : Type 0 where
  pub free : IsFalse (has_vertex g (helper_name k))
  pub least : (j : ℕ) → j < k → IsTrue (has_vertex g (helper_name j))

-- the rules are these with the least helper as h
abbrev pub WithLeastHelper : ProtectionGraph → (Name → List Rule) → List Rule → Type 0
WithLeastHelper g rules_with rules = (k : ℕ) × IsLeastHelper g k × (rules ≡ rules_with (helper_name k))

-- p gets q's right over y: the first of four cases whose condition holds on the opening graph g; a helper is new after the rules so far
pub record IsMove (g now : ProtectionGraph) (right : Right) (y p q : Name) (rules : List Rule) : Type 0 where
  pub takes : IsTrue (g.holds p T q) → rules ≡ Take p q y (only right) ∷ []
  pub granted : IsFalse (g.holds p T q) → IsTrue (g.holds q G p) → rules ≡ Grant q p y (only right) ∷ []
  pub grants : IsFalse (g.holds p T q) → IsFalse (g.holds q G p) → IsTrue (g.holds p G q)
      → WithLeastHelper now (λ h. Create p h take_and_grant ∷ Grant p q h (only G) ∷ Grant q h y (only right) ∷ Take p h y (only right) ∷ []) rules
  pub taken : IsFalse (g.holds p T q) → IsFalse (g.holds q G p) → IsFalse (g.holds p G q) → IsTrue (g.holds q T p)
      → WithLeastHelper now (λ h. Create p h take_and_grant ∷ Take q p h (only G) ∷ Grant q h y (only right) ∷ Take p h y (only right) ∷ []) rules

-- the moves from q on along the vertices, one after another
abbrev pub AreMoves : ProtectionGraph → ProtectionGraph → Right → Name → Name → List Name → List Rule → Type 0
AreMoves g now right y q [] rules = rules ≡ []
AreMoves g now right y q (p ∷ ps) rules =
    (move : List Rule) × (rest : List Rule) × IsMove g now right y p q move × AreMoves g (after_all now move) right y p ps rest × (rules ≡ move ++ rest)

-- no chain of fewer links leads from x to a vertex that holds the right over y
abbrev pub IsShortest : ProtectionGraph → Right → Name → Name → List Name → Type 0
IsShortest g right x y chain = (holder : Name) (other : List Name) → IsTrue (g.holds holder right y) → IsChain g x other holder → length chain ≤ length other
