-- Laws of least cuts. Each is the contract of a function of this crate.
use Rattle.std.specs.Prelude.{◌≡◌, ◌↔◌, ◌<◌, ◌≤◌, ◌^◌, IsTrue, List, [], length}
use Rattle.std.specs.List.{AllByRecursion}
use Rattle.tg_names.specs.declared.right_sets.Right.{Right}
use Rattle.tg_graph.specs.declared.rules.Rule.{Rule}
use Rattle.tg_names.specs.Names.{Name}
use Rattle.tg_graph.specs.Graphs.{ProtectionGraph, has_vertex, WellFormed}
use Rattle.tg_graph.specs.RuleLists.{AllAccepted, CanShare}
use Rattle.tg_cuts.specs.declared.kept.Ends.{Ends}
use Rattle.tg_cuts.specs.Cuts.{TakesHeld, IsLeastCut, IsTheCut, HasNoCut}

-- there is one such cut
abbrev pub ThereIsOneCut : Type 0
ThereIsOneCut =
    (g : ProtectionGraph) (right : Right) (x y : Name) (kept : List Ends) (one other : List Rule)
    → WellFormed g → length g.vertices < 2 ^ 64 → IsTrue (has_vertex g x) → IsTrue (has_vertex g y)
    → IsTheCut g right x y kept one → IsTheCut g right x y kept other → one ≡ other

-- a cut has no rule exactly where x can't come to have the right
abbrev pub NoRuleWhereNo : Type 0
NoRuleWhereNo =
    (g : ProtectionGraph) (right : Right) (x y : Name) (kept : List Ends) (cut : List Rule) → IsTheCut g right x y kept cut → (cut ≡ []) ↔ (CanShare g right x y → ⊥)

-- where there is one, the kept edges leave a cut: not both answers are right
abbrev pub NotBoth : Type 0
NotBoth = (g : ProtectionGraph) (right : Right) (x y : Name) (kept : List Ends) (cut : List Rule) → IsTheCut g right x y kept cut → HasNoCut g right x y kept → ⊥

-- the rules of a cut are accepted in turn
abbrev pub CutsAreAccepted : Type 0
CutsAreAccepted = (g : ProtectionGraph) (kept : List Ends) (cut : List Rule) → WellFormed g → AllByRecursion (TakesHeld g kept) cut → AllAccepted g cut

-- where no edge is kept, a cut has no more rules than there are vertices: to take the right from each that holds it over y is enough
abbrev pub CutsAreShort : Type 0
CutsAreShort =
    (g : ProtectionGraph) (right : Right) (x y : Name) (cut : List Rule)
    → WellFormed g → length g.vertices < 2 ^ 64 → IsTrue (has_vertex g x) → IsTrue (has_vertex g y) → IsLeastCut g right x y [] cut → length cut ≤ length g.vertices
