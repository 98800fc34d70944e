-- When each refusal applies to a rule, said of each by itself, and in which order refusals come.
use Rattle.std.specs.Prelude.{◌≡◌, ℕ, ◌<◌, IsTrue, ◌&&◌, not, List, [], ◌∷◌, ◌++◌, All}
use Rattle.tg_names.specs.declared.right_sets.Right.{Right}
use Rattle.tg_names.specs.declared.right_sets.Right.TheVariants.{T, G}
use Rattle.tg_names.specs.declared.right_sets.Rights.{Rights}
use Rattle.tg_graph.specs.declared.rules.Rule.{Rule}
use Rattle.tg_graph.specs.declared.rules.Rule.TheVariants.{Take, Grant, Create, Remove}
use Rattle.tg_graph.specs.declared.rules.Refusal.{Refusal}
use Rattle.tg_graph.specs.declared.rules.Refusal.TheVariants.{Unknown, Taken, Empty, NoTake, NoGrant, NotHeld, Full}
use Rattle.tg_names.specs.Sets.{member, IsNamed}
use Rattle.tg_names.specs.Names.{Name}
use Rattle.tg_graph.specs.Graphs.{ProtectionGraph, has_vertex}

-- the vertices of a rule in the order written, without the one to create
abbrev pub vertices_of : Rule → List Name
vertices_of (Take x y z s) = x ∷ y ∷ z ∷ []
vertices_of (Grant x y z s) = x ∷ y ∷ z ∷ []
vertices_of (Create x n s) = x ∷ []
vertices_of (Remove x y s) = x ∷ y ∷ []

-- v is the first of the names that is no vertex
pub record IsFirstUnknown (g : ProtectionGraph) (names : List Name) (v : Name) : Type 0 where
  pub front : List Name
  pub rest : List Name
  pub split : names ≡ front ++ v ∷ rest
  pub known : All (λ u. IsTrue (has_vertex g u)) front
  pub unknown : ¬ IsTrue (has_vertex g v)

-- v is the vertex to create, and there is one of that name
abbrev pub IsTaken : ProtectionGraph → Rule → Name → Type 0
IsTaken g (Take x y z s) v = ⊥
IsTaken g (Grant x y z s) v = ⊥
IsTaken g (Create x n s) v = (v ≡ n) × IsTrue (has_vertex g n)
IsTaken g (Remove x y s) v = ⊥

-- no right is in the set
abbrev pub HasNone : Rights → Type 0
HasNone s = (right : Right) → ¬ IsTrue (member s right)

-- a take, a grant or a remove carries no rights
abbrev pub CarriesNone : Rule → Type 0
CarriesNone (Take x y z s) = HasNone s
CarriesNone (Grant x y z s) = HasNone s
CarriesNone (Create x n s) = ⊥
CarriesNone (Remove x y s) = HasNone s

-- in a take, x has no t over y
abbrev pub LacksTake : ProtectionGraph → Rule → Type 0
LacksTake g (Take x y z s) = ¬ IsTrue (g.holds x T y)
LacksTake g (Grant x y z s) = ⊥
LacksTake g (Create x n s) = ⊥
LacksTake g (Remove x y s) = ⊥

-- in a grant, x has no g over y
abbrev pub LacksGrant : ProtectionGraph → Rule → Type 0
LacksGrant g (Take x y z s) = ⊥
LacksGrant g (Grant x y z s) = ¬ IsTrue (g.holds x G y)
LacksGrant g (Create x n s) = ⊥
LacksGrant g (Remove x y s) = ⊥

-- the rights of s that u does not hold over v are those of lacking, and there is one
pub record IsLacking (g : ProtectionGraph) (u v : Name) (s lacking : Rights) : Type 0 where
  pub named : IsNamed lacking
  pub members : (right : Right) → member lacking right ≡ (member s right && not (g.holds u right v))
  pub some : ¬ HasNone lacking

-- of a take's rights over z y lacks these, of a grant's x
abbrev pub LacksRights : ProtectionGraph → Rule → Rights → Type 0
LacksRights g (Take x y z s) lacking = IsLacking g y z s lacking
LacksRights g (Grant x y z s) lacking = IsLacking g x z s lacking
LacksRights g (Create x n s) lacking = ⊥
LacksRights g (Remove x y s) lacking = ⊥

-- the refusal applies, whatever others do; that a session's graph is full is never said of a graph
abbrev pub RefusalHolds : ProtectionGraph → Rule → Refusal → Type 0
RefusalHolds g rule (Unknown v) = IsFirstUnknown g (vertices_of rule) v
RefusalHolds g rule (Taken v) = IsTaken g rule v
RefusalHolds g rule Empty = CarriesNone rule
RefusalHolds g rule NoTake = LacksTake g rule
RefusalHolds g rule NoGrant = LacksGrant g rule
RefusalHolds g rule (NotHeld lacking) = LacksRights g rule lacking
RefusalHolds g rule Full = ⊥

-- the place of a refusal in their order
abbrev pub refusal_number : Refusal → ℕ
refusal_number (Unknown v) = 1
refusal_number (Taken v) = 2
refusal_number Empty = 3
refusal_number NoTake = 4
refusal_number NoGrant = 5
refusal_number (NotHeld lacking) = 6
refusal_number Full = 7

-- the refusal applies, and none with a lesser number does
pub record IsLeastRefusal (g : ProtectionGraph) (rule : Rule) (refusal : Refusal) : Type 0 where
  pub applies : RefusalHolds g rule refusal
  pub least : (other : Refusal) → refusal_number other < refusal_number refusal → ¬ RefusalHolds g rule other
