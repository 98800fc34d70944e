-- Lists of rules that carry the rights of a set from vertices to another, one right after the other.
use Rattle.std.specs.Prelude.{◌≡◌, ℕ, ◌+◌, ◌*◌, ◌-◌, ◌≤◌, ◌↔◌, IsTrue, IsFalse, List, [], ◌∷◌, ◌++◌, length}
use Rattle.std.specs.List.{AllByRecursion, filter, list_any}
use Rattle.tg_names.specs.declared.right_sets.Right.{Right}
use Rattle.tg_names.specs.declared.right_sets.Rights.{Rights}
use Rattle.tg_graph.specs.declared.rules.Rule.{Rule}
use Rattle.tg_graph.specs.declared.rules.Rule.TheVariants.{Take, Grant, Create, Remove}
use Rattle.tg_names.specs.Sets.{member}
use Rattle.tg_names.specs.Letters.{all_rights}
use Rattle.tg_graph.specs.Limits.{most_vertices}
use Rattle.tg_names.specs.Names.{Name, same_name}
use Rattle.tg_graph.specs.Graphs.{ProtectionGraph, has_vertex}
use Rattle.tg_graph.specs.RuleLists.{AllAccepted, after_all}
use Rattle.tg_islands.specs.Sharing.{NoRepeat}
use Rattle.tg_islands.specs.Moves.{only}
use Rattle.tg_sharing.specs.Derivations.{IsSoFar, IsUnderway, TakesNothing, IsPart, IsDerivation}

-- the rights of the set, in the order of their letters
abbrev pub rights_in : Rights → List Right
rights_in s = filter (member s) all_rights

-- a part for each of the rights in turn, from the graph `now` on
abbrev pub AreParts : ProtectionGraph → ProtectionGraph → Name → Name → List Right → List Rule → Type 0
AreParts g now x y [] rules = rules ≡ []
AreParts g now x y (right ∷ rights) rules =
    (part : List Rule) × (rest : List Rule) × IsPart g now right x y part × AreParts g (after_all now part) x y rights rest × (rules ≡ part ++ rest)

-- accepted rules that give x each right of s over y: a part for each of them, in the order of their letters
pub record IsDerivationOfAll (g : ProtectionGraph) (s : Rights) (x y : Name) (rules : List Rule) : Type 0 where
  pub accepted : AllAccepted g rules
  pub gives : (right : Right) → IsTrue (member s right) → IsTrue ((after_all g rules).holds x right y)
  pub parts : AreParts g g x y (rights_in s) rules

-- the rules have gained the part of one right more
pub record AddsPart (g : ProtectionGraph) (right : Right) (x y : Name) (old new : List Rule) (next last : ℕ) : Type 0 where
  pub underway : IsUnderway g right y x new last
  pub kept : TakesNothing g old new
  pub part : List Rule
  pub is_part : IsPart g (after_all g old) right x y part
  pub is : new ≡ old ++ part
  pub low : last ≤ next + (most_vertices + 1) * most_vertices

-- the rules so far give x those of the rights that are in s, by their parts
pub record HasParts (g : ProtectionGraph) (s : Rights) (x y : Name) (rights : List Right) (rules : List Rule) (next : ℕ) : Type 0 where
  pub so_far : IsSoFar g rules next
  pub gives : AllByRecursion (λ right. IsTrue (member s right) → IsTrue ((after_all g rules).holds x right y)) rights
  pub parts : AreParts g g x y (filter (member s) rights) rules
  pub low : next ≤ (most_vertices + 1) * most_vertices * length rights

-- of a set of one right it is a derivation of that right
abbrev pub OneRightAlone : Type 0
OneRightAlone = (g : ProtectionGraph) (right : Right) (x y : Name) (rules : List Rule) → IsDerivationOfAll g (only right) x y rules ↔ IsDerivation g right x y rules

-- for each right of the set, four rules for each vertex but one are enough
abbrev pub DerivationsOfAllAreShort : Type 0
DerivationsOfAllAreShort = (g : ProtectionGraph) (s : Rights) (x y : Name) (rules : List Rule) → IsDerivationOfAll g s x y rules → (length rules ≤ 4 * (length g.vertices - 1) * length (rights_in s)) × (length rules ≤ 28 * (length g.vertices - 1))

-- the names of the vertices that the rules create, in their order
abbrev pub created_by : List Rule → List Name
created_by [] = []
created_by (Take x y z s ∷ rules) = created_by rules
created_by (Grant x y z s ∷ rules) = created_by rules
created_by (Create x n s ∷ rules) = n ∷ created_by rules
created_by (Remove x y s ∷ rules) = created_by rules

-- rules that are accepted one after another create no name twice, and none that is a vertex of the opening graph
abbrev pub CreatedAreNew : Type 0
CreatedAreNew = (g : ProtectionGraph) (rules : List Rule) → AllAccepted g rules → NoRepeat (created_by rules) × ((v : Name) → IsTrue (has_vertex g v) → IsFalse (list_any (same_name v) (created_by rules)))
