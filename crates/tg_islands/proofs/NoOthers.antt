-- No list of rules gives a right over a vertex but one that the holder's island had.
use Rattle.std.proofs.Common.{List, [], ◌∷◌, ◌∙◌, subst, IsTrue, inl, inr}
use Rattle.std.proofs.lemmas.Bool.{both_ways}
use Rattle.tg_names.specs.declared.right_sets.Right.{Right}
use Rattle.tg_graph.specs.declared.rules.Rule.{Rule}
use Rattle.tg_names.specs.Names.{Name}
use Rattle.tg_graph.specs.Graphs.{ProtectionGraph, has_vertex, WellFormed}
use Rattle.tg_graph.specs.Rules.{after}
use Rattle.tg_graph.specs.RuleLists.{AllAccepted, after_all, CanShare}
use Rattle.tg_islands.specs.Sharing.{InOneIsland, HeldInIsland, NothingElse}
use Rattle.tg_islands.proofs.Traced.{Traced, Kept, traced_start, traced_rule}

traced_all : (g now : ProtectionGraph) (o : Name → Name) (rules : List Rule) → WellFormed g → Traced g now o → AllAccepted now rules → (o' : Name → Name) × Traced g (after_all now rules) o'
traced_all g now o [] well t a = (o, t)
traced_all g now o (rule ∷ rules) well t a = let next = traced_rule g now o rule well t a.1 in traced_all g (after now rule) next.0 rules well next.1 a.2

held_at_start : (g h : ProtectionGraph) (o : Name → Name) (right : Right) (x y : Name) → Traced g h o → IsTrue (has_vertex g x) → IsTrue (has_vertex g y) → IsTrue (h.holds x right y) → HeldInIsland g right x y
held_at_start g h o right x y t x_there y_there has = go (t.kept x right y has)
  where
    go : Kept g (o x) right y (o y) → HeldInIsland g right x y
    go (inl k) = (k.1, k.2, subst (λ w. InOneIsland g w k.1) (t.opening x x_there).0 k.3)
    go (inr k) = absurd (both_ways (has_vertex g y) k.0 y_there)

pub no_other : (g : ProtectionGraph) (right : Right) (x y : Name) → WellFormed g → IsTrue (has_vertex g x) → IsTrue (has_vertex g y) → CanShare g right x y → HeldInIsland g right x y
no_other g right x y well x_there y_there can =
    let t = traced_all g g (λ v. v) can.0 well (traced_start g well) can.1 in
    held_at_start g (after_all g can.0) t.0 right x y t.1 x_there y_there can.2

pub nothing_else : NothingElse
nothing_else g h rules right x y well x_there y_there leads has = no_other g right x y well x_there y_there (rules, leads.0, leads.1.triples x right y ∙ has)
