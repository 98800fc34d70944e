-- Links, chains and islands, and what they say of sharing.
use Rattle.std.specs.Prelude.{◌≡◌, ℕ, ◌<◌, ◌^◌, length, ◌↔◌, ◌≤◌, ◌*◌, ⊤, IsFalse, Bool, ◌||◌, IsTrue, List, [], ◌∷◌}
use Rattle.tg_names.specs.declared.right_sets.Right.{Right}
use Rattle.tg_names.specs.declared.right_sets.Right.TheVariants.{T, G}
use Rattle.tg_graph.specs.declared.rules.Rule.{Rule}
use Rattle.std.specs.List.{list_any}
use Rattle.tg_names.specs.declared.right_sets.Rights.{Rights}
use Rattle.tg_names.specs.Names.{IsName, helper_name, Name, same_name}
use Rattle.tg_names.specs.Sets.{member}
use Rattle.tg_graph.specs.Graphs.{ProtectionGraph, has_vertex, WellFormed}
use Rattle.tg_graph.specs.RuleLists.{AllAccepted, after_all, LeadsTo, CanShare, CanShareAll}

-- an edge between u and v, in either direction, holds take or grant
abbrev pub linked : ProtectionGraph → Name → Name → Bool
linked g u v = g.holds u T v || g.holds u G v || g.holds v T u || g.holds v G u

-- the vertices from u on, each linked to the next, and the last is v
abbrev pub IsChain : ProtectionGraph → Name → List Name → Name → Type 0
IsChain g u [] v = (u ≡ v) × IsTrue (has_vertex g u)
IsChain g u (w ∷ ws) v = IsTrue (has_vertex g u) × IsTrue (linked g u w) × IsChain g w ws v

abbrev pub InOneIsland : ProtectionGraph → Name → Name → Type 0
InOneIsland g u v = (chain : List Name) × IsChain g u chain v

-- some vertex of x's island holds the right over y
abbrev pub HeldInIsland : ProtectionGraph → Right → Name → Name → Type 0
HeldInIsland g right x y = (s : Name) × IsTrue (g.holds s right y) × InOneIsland g x s

-- a right can be shared exactly where x's island holds it
abbrev pub SharedExactly : Type 0
SharedExactly = (g : ProtectionGraph) (right : Right) (x y : Name) → WellFormed g → length g.vertices < 2 ^ 64 → IsTrue (has_vertex g x) → IsTrue (has_vertex g y) → CanShare g right x y ↔ HeldInIsland g right x y

-- from any graph, also one that leads to h in the end
abbrev pub NothingElse : Type 0
NothingElse = (g h : ProtectionGraph) (rules : List Rule) (right : Right) (x y : Name) → WellFormed g → IsTrue (has_vertex g x) → IsTrue (has_vertex g y) → LeadsTo g rules h → IsTrue (h.holds x right y) → HeldInIsland g right x y

-- no two of the vertices are the same
abbrev pub NoRepeat : List Name → Type 0
NoRepeat [] = ⊤
NoRepeat (v ∷ vs) = IsFalse (list_any (same_name v) vs) × NoRepeat vs

-- the holder is some links away by a chain without a repeated vertex, and each link costs four rules at most
abbrev pub FewRules : Type 0
FewRules = (g : ProtectionGraph) (right : Right) (x y : Name) → WellFormed g → length g.vertices < 2 ^ 64 → HeldInIsland g right x y → (s : Name) × (chain : List Name) × (rules : List Rule) × IsTrue (g.holds s right y) × IsChain g x chain s × NoRepeat (x ∷ chain) × AllAccepted g rules × IsTrue ((after_all g rules).holds x right y) × (length rules ≤ 4 * length chain)

-- a graph stays as it should be
abbrev pub StaysWellFormed : Type 0
StaysWellFormed = (g : ProtectionGraph) (rules : List Rule) → WellFormed g → AllAccepted g rules → WellFormed (after_all g rules)

-- the rights of a set can be shared together exactly where each can be alone
abbrev pub TogetherAsAlone : Type 0
TogetherAsAlone = (g : ProtectionGraph) (s : Rights) (x y : Name) → WellFormed g → length g.vertices < 2 ^ 64 → IsTrue (has_vertex g x) → IsTrue (has_vertex g y) → CanShareAll g s x y ↔ ((right : Right) → IsTrue (member s right) → HeldInIsland g right x y)

-- a set of vertices with u that each link leads on in has all of u's island
abbrev pub FloodHasIsland : Type 0
FloodHasIsland = (g : ProtectionGraph) (met : Name → Bool) (u v : Name) → ((a b : Name) → IsTrue (met a) → IsTrue (has_vertex g b) → IsTrue (linked g a b) → IsTrue (met b)) → IsTrue (met u) → InOneIsland g u v → IsTrue (met v)

-- of the helpers' names the first ones have one that is not in use
abbrev pub HelpersSuffice : Type 0
HelpersSuffice = (vs : List Name) (m : ℕ) → m ≤ 2 ^ 32 → ((k : ℕ) → k < m → IsName (helper_name k)) × (((k : ℕ) → k < m → IsTrue (list_any (same_name (helper_name k)) vs)) → m ≤ length vs)
