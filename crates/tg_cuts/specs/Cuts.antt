-- The least cut: which rights have to go so that x can't come to have the right over y, and from no fewer edges.
use Rattle.std.specs.Prelude.{◌≡◌, ◌⊎◌, ◌<◌, ◌≤◌, ⊤, ℕ, Bool, true, false, ◌&&◌, not, IsTrue, if◌then◌else◌, nat_lt, List, [], ◌∷◌, length, slice_get, Option, Some, None}
use Rattle.std.specs.List.{list_any, AllByRecursion}
use Rattle.std.specs.Ordering.{nat_cmp}
use Rattle.std.specs.Cmp.Lexicographic.{slice_cmp}
use Rattle.std.specs.declared.cmp.Ordering.TheVariants.{Less}
use Rattle.tg_names.specs.declared.right_sets.Right.{Right}
use Rattle.tg_names.specs.declared.right_sets.Rights.{Rights}
use Rattle.tg_graph.specs.declared.rules.Rule.{Rule}
use Rattle.tg_graph.specs.declared.rules.Rule.TheVariants.{Take, Grant, Create, Remove}
use Rattle.tg_names.specs.Sets.{member, is_empty_set, IsNamed}
use Rattle.tg_graph.specs.Limits.{most_vertices}
use Rattle.tg_names.specs.Names.{Name, same_name}
use Rattle.tg_graph.specs.Graphs.{ProtectionGraph, has_vertex}
use Rattle.tg_graph.specs.Rules.{with_rights}
use Rattle.tg_graph.specs.RuleLists.{after_all, CanShare}
use Rattle.tg_islands.specs.declared.questions.AskFault.{AskFault}
use Rattle.tg_islands.specs.declared.questions.AskFault.TheVariants.{Unknown, TooLarge}
use Rattle.tg_cuts.specs.declared.kept.Ends.{Ends}
use Rattle.tg_islands.specs.Moves.{only}

-- ---- edges
-- the edge from u to v is one of them
abbrev pub is_one_of : List Ends → Name → Name → Bool
is_one_of edges u v = list_any (λ (e : Ends). same_name u e.source && same_name v e.target) edges

-- h is g without some rights, taken from the labels of these edges alone
pub record Loses (g h : ProtectionGraph) (edges : List Ends) : Type 0 where
  pub vertices : h.vertices ≡ g.vertices
  pub fewer : (u : Name) (right : Right) (v : Name) → IsTrue (h.holds u right v) → IsTrue (g.holds u right v)
  pub others : (u : Name) (right : Right) (v : Name) → is_one_of edges u v ≡ false → h.holds u right v ≡ g.holds u right v

-- the labels of the kept edges are the same
abbrev pub Keeps : ProtectionGraph → ProtectionGraph → List Ends → Type 0
Keeps g h kept = (u : Name) (right : Right) (v : Name) → is_one_of kept u v ≡ true → h.holds u right v ≡ g.holds u right v

-- ---- rules that take rights away
-- the rule takes rights from an edge that is not kept, at least one, and only rights that its label has
pub record TakesHeld (g : ProtectionGraph) (kept : List Ends) (rule : Rule) : Type 0 where
  pub source : Name
  pub target : Name
  pub rights : Rights
  pub is : rule ≡ Remove source target rights
  pub some : is_empty_set rights ≡ false
  pub named : IsNamed rights
  pub held : (right : Right) → IsTrue (member rights right) → IsTrue (g.holds source right target)
  pub free : is_one_of kept source target ≡ false

-- the first name comes before the second in name order
abbrev pub IsBelow : Name → Name → Type 0
IsBelow v w = slice_cmp nat_cmp v w ≡ Less

-- one edge comes before another: its source does, or with one source its target does
abbrev pub ComesFirst : Ends → Ends → Type 0
ComesFirst e f = IsBelow e.source f.source ⊎ ((e.source ≡ f.source) × IsBelow e.target f.target)

-- each edge comes before all behind it
abbrev pub AreInOrder : List Ends → Type 0
AreInOrder [] = ⊤
AreInOrder (e ∷ edges) = AllByRecursion (ComesFirst e) edges × AreInOrder edges

-- the edges from which the rules take rights
abbrev pub edges_of : List Rule → List Ends
edges_of [] = []
edges_of (Take x y z s ∷ rules) = edges_of rules
edges_of (Grant x y z s ∷ rules) = edges_of rules
edges_of (Create x n s ∷ rules) = edges_of rules
edges_of (Remove u v s ∷ rules) = record { source = u; target = v } ∷ edges_of rules

-- ---- the cut
-- rules that take rights from edges, one from each, after which x can't come to have the right over y; and whatever is taken from fewer edges, x can. Kept edges stay as they are in both.
pub record IsLeastCut (g : ProtectionGraph) (right : Right) (x y : Name) (kept : List Ends) (cut : List Rule) : Type 0 where
  pub held : AllByRecursion (TakesHeld g kept) cut
  pub order : AreInOrder (edges_of cut)
  pub no : CanShare (after_all g cut) right x y → ⊥
  pub least : (h : ProtectionGraph) (edges : List Ends) → Loses g h edges → Keeps g h kept → length edges < length cut → CanShare h right x y

-- of all least cuts it takes the right from the fewest: whoever can come to have it after another one can do so after this
abbrev pub IsNearest : ProtectionGraph → Right → Name → Name → List Ends → List Rule → Type 0
IsNearest g right x y kept cut =
    (h : ProtectionGraph) (edges : List Ends) → Loses g h edges → Keeps g h kept → length edges ≤ length cut → (CanShare h right x y → ⊥)
    → (v : Name) → IsTrue (has_vertex g v) → CanShare h right v y → CanShare (after_all g cut) right v y

-- each right has to go: with any one of them put back x can
abbrev pub IsNeeded : ProtectionGraph → Right → Name → Name → List Rule → Type 0
IsNeeded g right x y cut =
    (k : ℕ) (u v : Name) (s : Rights) (back : Right) → slice_get cut k ≡ Some (Remove u v s) → IsTrue (member s back) → CanShare (with_rights (after_all g cut) u v (only back)) right x y

-- the least cut nearest to x
pub record IsTheCut (g : ProtectionGraph) (right : Right) (x y : Name) (kept : List Ends) (cut : List Rule) : Type 0 where
  pub least_cut : IsLeastCut g right x y kept cut
  pub nearest : IsNearest g right x y kept cut
  pub needed : IsNeeded g right x y cut

-- whatever goes beside the kept edges, x can
abbrev pub HasNoCut : ProtectionGraph → Right → Name → Name → List Ends → Type 0
HasNoCut g right x y kept = (h : ProtectionGraph) (edges : List Ends) → Loses g h edges → Keeps g h kept → CanShare h right x y

-- ---- faults
-- the first end of the edges that is no vertex, or what comes later
abbrev pub unknown_end_or : ProtectionGraph → List Ends → Option AskFault → Option AskFault
unknown_end_or g [] later = later
unknown_end_or g (e ∷ edges) later =
    if not (has_vertex g e.source) then Some (Unknown e.source) else (if not (has_vertex g e.target) then Some (Unknown e.target) else unknown_end_or g edges later)

-- the fault of a question for a cut: x, y, then the kept edges, then too many vertices
abbrev pub cut_fault : ProtectionGraph → Name → Name → List Ends → Option AskFault
cut_fault g x y kept =
    if not (has_vertex g x) then Some (Unknown x) else (if not (has_vertex g y) then Some (Unknown y) else unknown_end_or g kept (if nat_lt most_vertices (length g.vertices) then Some TooLarge else None))
