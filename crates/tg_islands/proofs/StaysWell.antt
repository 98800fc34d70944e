-- A rule keeps a graph as it should be.
use Rattle.std.proofs.Common.{◌≡◌, true, ◌⊎◌, inl, inr, [], ◌∷◌, ◌++◌, None, sym, ◌∙◌, subst, IsTrue}
use Rattle.std.proofs.lemmas.Bool.{and_parts, or_cases, or_left, or_right}
use Rattle.tg_names.specs.declared.right_sets.Right.{Right}
use Rattle.tg_names.specs.declared.right_sets.Rights.{Rights}
use Rattle.tg_graph.specs.declared.rules.Rule.{Rule}
use Rattle.tg_graph.specs.declared.rules.Rule.TheVariants.{Take, Grant, Create, Remove}
use Rattle.tg_names.specs.Names.{IsName, Name, same_name}
use Rattle.tg_names.specs.Sets.{member}
use Rattle.tg_graph.specs.Graphs.{ProtectionGraph, has_vertex, WellFormed}
use Rattle.tg_graph.specs.Rules.{refusal_of, with_edge, after}
use Rattle.tg_graph.specs.RuleWords.{IsRule}
use Rattle.tg_islands.specs.Sharing.{StaysWellFormed}
use Rattle.tg_rows.proofs.Rows.{same_bytes}
use Rattle.tg_islands.proofs.NameTests.{same_refl, any_push, edge_cases}
use Rattle.tg_islands.proofs.Accepted.{take_facts, grant_facts, create_facts}

well_edge : (g : ProtectionGraph) (x z : Name) (s : Rights) → WellFormed g → IsTrue (has_vertex g x) → IsTrue (has_vertex g z) → WellFormed (record { vertices = g.vertices; holds = with_edge g.holds x z s })
well_edge g x z s well x_there z_there = record {
  names = well.names;
  ends = λ u right v has. go u right v (edge_cases g.holds x z s u right v has);
}
  where
    go : (u : Name) (right : Right) (v : Name) → (g.holds u right v ≡ true) ⊎ ((u ≡ x) × (v ≡ z) × (member s right ≡ true)) → IsTrue (has_vertex g u) × IsTrue (has_vertex g v)
    go u right v (inl e) = well.ends u right v e
    go u right v (inr e) = (subst (λ w. IsTrue (has_vertex g w)) (sym e.0) x_there, subst (λ w. IsTrue (has_vertex g w)) (sym e.1) z_there)

-- one more vertex
well_vertex : (g : ProtectionGraph) (n : Name) → IsName n → WellFormed g → WellFormed (record { vertices = g.vertices ++ n ∷ []; holds = g.holds })
well_vertex g n name well = record {
  names = λ v there. elim (or_cases (has_vertex g v) (same_name v n) (sym (any_push (same_name v) g.vertices n) ∙ there)) [ inl e ↦ well.names v e | inr e ↦ subst IsName (sym (same_bytes v n e)) name ];
  ends = λ u right v has. (old u (well.ends u right v has).0, old v (well.ends u right v has).1);
}
  where
    old : (v : Name) → IsTrue (has_vertex g v) → IsTrue (has_vertex (record { vertices = g.vertices ++ n ∷ []; holds = g.holds }) v)
    old v there = any_push (same_name v) g.vertices n ∙ or_left (has_vertex g v) (same_name v n) there

well_after : (g : ProtectionGraph) (rule : Rule) → WellFormed g → IsRule rule → refusal_of g rule ≡ None → WellFormed (after g rule)
unfolding after
well_after g (Take x y z s) well is_rule a = let f = take_facts g x y z s a in well_edge g x z s well f.x_there f.z_there
well_after g (Grant x y z s) well is_rule a = let f = grant_facts g x y z s a in well_edge g y z s well f.y_there f.z_there
well_after g (Create x n s) well is_rule a =
    let f = create_facts g x n s a in
    well_edge (record { vertices = g.vertices ++ n ∷ []; holds = g.holds }) x n s (well_vertex g n is_rule.1 well) (any_push (same_name x) g.vertices n ∙ or_left (has_vertex g x) (same_name x n) f.x_there) (any_push (same_name n) g.vertices n ∙ or_right (has_vertex g n) (same_name n n) (same_refl n))
well_after g (Remove x y s) well is_rule a = record {
  names = well.names;
  ends = λ u right v has. well.ends u right v (and_parts (g.holds u right v) _ has).0;
}

pub stays_well : StaysWellFormed
stays_well g [] well a = well
stays_well g (rule ∷ rules) well a = stays_well (after g rule) rules (well_after g rule well a.0 a.1) a.2
