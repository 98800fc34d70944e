-- Walks over vertices, each seen from one of two sides.
use Rattle.std.specs.Prelude.{Bool, false, ◌≡◌, ◌||◌, ◌⊎◌, IsTrue, List, [], ◌∷◌, ◌++◌, if◌then◌else◌}
use Rattle.std.proofs.Common.{inl, inr}
use Rattle.tg_names.specs.declared.right_sets.Right.{Right}
use Rattle.tg_names.specs.declared.right_sets.Right.TheVariants.{T, G}
use Rattle.tg_names.specs.Names.{Name, same_name}
use Rattle.tg_graph.specs.Graphs.{ProtectionGraph, has_vertex}
use Rattle.tg_walks.specs.Acting.{Acts}

-- ahead: one who helps comes to the vertex along takes; behind: one who comes to it along takes would help
pub data Stand : Type 0 where
  Ahead : Name → Stand
  Behind : Name → Stand

-- the same vertex from the same side
abbrev pub same_stand : Stand → Stand → Bool
same_stand (Ahead u) (Ahead v) = same_name u v
same_stand (Ahead u) (Behind v) = false
same_stand (Behind u) (Ahead v) = false
same_stand (Behind u) (Behind v) = same_name u v

-- the vertex is asked to act, and turns round
abbrev pub IsAsked : ProtectionGraph → Acts → Name → Name → Type 0
IsAsked g acts u v = (u ≡ v) × IsTrue (has_vertex g u) × IsTrue (acts u)

-- from a stand to the next: along takes on each side, over a grant edge to behind its other end, or by a vertex that is asked
abbrev pub IsStep : ProtectionGraph → Acts → Stand → Stand → Type 0
IsStep g acts (Ahead u) (Ahead v) = IsTrue (g.holds u T v)
IsStep g acts (Ahead u) (Behind v) = IsTrue (g.holds u G v || g.holds v G u) ⊎ IsAsked g acts u v
IsStep g acts (Behind u) (Ahead v) = IsAsked g acts u v
IsStep g acts (Behind u) (Behind v) = IsTrue (g.holds v T u)

-- where a walk for x may begin
abbrev pub IsStart : ProtectionGraph → Acts → Name → Stand → Type 0
IsStart g acts x (Ahead v) = IsAsked g acts x v
IsStart g acts x (Behind v) = IsTrue (g.holds v G x)

-- the stands from p on, each a step from the one before, and the last is q
abbrev pub IsWalk : ProtectionGraph → Acts → Stand → List Stand → Stand → Type 0
IsWalk g acts p [] q = p ≡ q
IsWalk g acts p (s ∷ ss) q = IsStep g acts p s × IsWalk g acts s ss q

-- some walk from p ends at q
abbrev pub Reaches : ProtectionGraph → Acts → Stand → Stand → Type 0
Reaches g acts p q = (stands : List Stand) × IsWalk g acts p stands q

-- a walk from a start of x
abbrev pub Leads : ProtectionGraph → Acts → Name → Stand → Type 0
Leads g acts x q = (p : Stand) × IsStart g acts x p × Reaches g acts p q

-- x holds the right over y, or a walk from a start of x leads ahead of one that holds it
abbrev pub HeldAlong : ProtectionGraph → Acts → Right → Name → Name → Type 0
HeldAlong g acts right x y = IsTrue (g.holds x right y) ⊎ ((s : Name) × Leads g acts x (Ahead s) × IsTrue (g.holds s right y))

-- the vertex that a step asks, unless it is x
abbrev pub asked_at : (g : ProtectionGraph) (acts : Acts) (x : Name) (p q : Stand) → IsStep g acts p q → List Name
asked_at g acts x (Ahead u) (Ahead v) step = []
asked_at g acts x (Ahead u) (Behind v) (inl edge) = []
asked_at g acts x (Ahead u) (Behind v) (inr asked) = if same_name u x then [] else u ∷ []
asked_at g acts x (Behind u) (Ahead v) step = if same_name u x then [] else u ∷ []
asked_at g acts x (Behind u) (Behind v) step = []

-- the vertices other than x that a walk asks
abbrev pub asked_on : (g : ProtectionGraph) (acts : Acts) (x : Name) (p : Stand) (ss : List Stand) (q : Stand) → IsWalk g acts p ss q → List Name
asked_on g acts x p [] q walk = []
asked_on g acts x p (s ∷ ss) q walk = asked_at g acts x p s walk.0 ++ asked_on g acts x s ss q walk.1
