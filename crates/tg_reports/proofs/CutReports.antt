-- What the report of a cut says, and that there is one report.
use Rattle.std.proofs.Common.{◌≡◌, ◌<◌, ◌≤◌, ◌^◌, inl, inr, ℕ, IsTrue, List, [], ◌∷◌, length, Result, Ok, Err, refl, sym, ap, subst, ◌∙◌, arith}
use Rattle.std.specs.Prelude.{codes}
use Rattle.tg_graph.specs.declared.rules.Rule.{Rule}
use Rattle.tg_graph.specs.Graphs.{ProtectionGraph, has_vertex, WellFormed}
use Rattle.tg_graph.specs.Limits.{most_vertices}
use Rattle.tg_graph.specs.RuleLists.{CanShare}
use Rattle.tg_text.specs.GraphText.{graph_text}
use Rattle.tg_text.proofs.SmallGraphs.{graph_is_small}
use Rattle.tg_text.proofs.Steps.{bind_ok}
use Rattle.tg_cuts.specs.declared.kept.Ends.{Ends}
use Rattle.tg_cuts.specs.Cuts.{Loses, Keeps, IsTheCut, HasNoCut}
use Rattle.tg_cut_laws.proofs.OneCut.{one-cut, not-both}
use Rattle.tg_inputs.specs.Readings.{ReportText, CutQuestion, graph_in, right_in, name_in, vertex_in, kept_in, cut_in, IsFor}
use Rattle.tg_reports.specs.Reports.{cut_report, IsCut}
use Rattle.tg_reports.specs.ReportParts.{cut_text}
use Rattle.tg_inputs.proofs.KeptEdges.{vertex_there}
use Rattle.tg_reports.proofs.DerivedTexts.{from_read}
use Rattle.tg_reports.proofs.ReadGraphs.{graph_is_well_formed}

-- ---- what the report says
-- a graph is itself without any rights
loses-none : (g : ProtectionGraph) → Loses g g []
loses-none g = record { vertices = refl; fewer = λ u right v held. held; others = λ u right v beside. refl }

keeps-all : (g : ProtectionGraph) (kept : List Ends) → Keeps g g kept
keeps-all g kept u right v among = refl

-- where the kept edges leave no cut x can come to have the right
none-shares : (q : CutQuestion) → HasNoCut q.graph q.right q.x q.y q.kept → CanShare q.graph q.right q.x q.y
none-shares q none = none q.graph [] (loses-none q.graph) (keeps-all q.graph q.kept)

-- the text of a cut says no where it has no rule, and else its rules
pub cut_told : (q : CutQuestion) (cut : List Rule) (report : ReportText) → IsTheCut q.graph q.right q.x q.y q.kept cut → report ≡ cut_text cut → IsCut q report
cut_told q [] report is told = inl (is.least_cut.no, told)
cut_told q (rule ∷ rules) report is told =
    let shares : CanShare q.graph q.right q.x q.y = is.least_cut.least q.graph [] (loses-none q.graph) (keeps-all q.graph q.kept) (omega arith) in
    inr (inr (rule ∷ rules, shares, is, told))

-- ---- one report
cut_one : (q : CutQuestion) (a b : ReportText) → WellFormed q.graph → length q.graph.vertices < 2 ^ 64 → IsTrue (has_vertex q.graph q.x) → IsTrue (has_vertex q.graph q.y) → IsCut q a → IsCut q b → a ≡ b
cut_one q a b well few x y (inl h) (inl k) = h.1 ∙ sym k.1
cut_one q a b well few x y (inl h) (inr (inl k)) = absurd (h.0 (none-shares q k.0))
cut_one q a b well few x y (inl h) (inr (inr k)) = absurd (h.0 k.1)
cut_one q a b well few x y (inr (inl h)) (inl k) = absurd (k.0 (none-shares q h.0))
cut_one q a b well few x y (inr (inl h)) (inr (inl k)) = h.1 ∙ sym k.1
cut_one q a b well few x y (inr (inl h)) (inr (inr k)) = absurd (not-both q.graph q.right q.x q.y q.kept k.0 k.2 h.0)
cut_one q a b well few x y (inr (inr h)) (inl k) = absurd (k.0 h.1)
cut_one q a b well few x y (inr (inr h)) (inr (inl k)) = absurd (not-both q.graph q.right q.x q.y q.kept h.0 h.2 k.0)
cut_one q a b well few x y (inr (inr h)) (inr (inr k)) =
    let same : h.0 ≡ k.0 = one-cut q.graph q.right q.x q.y q.kept h.0 k.0 well few x y h.2 k.2 in
    h.3 ∙ (ap cut_report same ∙ sym k.3)

-- ---- a question that was read
pub record IsRead (q : CutQuestion) : Type 0 where
  pub well : WellFormed q.graph
  pub small : length q.graph.vertices ≤ most_vertices
  pub from : IsTrue (has_vertex q.graph q.x)
  pub to : IsTrue (has_vertex q.graph q.y)

pub asked_read : (first right x y : List ℕ) (kept : List (List ℕ)) (q : CutQuestion) → cut_in first right x y kept ≡ Ok q → IsRead q
asked_read first right x y kept q e =
    let g = bind_ok (graph_in first) _ q e in
    let r = bind_ok (right_in right) _ q g.2 in
    let a = bind_ok (name_in x) _ q r.2 in
    let b = bind_ok (name_in y) _ q a.2 in
    let u = bind_ok (vertex_in g.0 a.0) _ q b.2 in
    let v = bind_ok (vertex_in g.0 b.0) _ q u.2 in
    let edges = bind_ok (kept_in g.0 kept) _ q v.2 in
    let whole : record { graph = g.0; right = r.0; x = u.0; y = v.0; kept = edges.0 } ≡ q = cc in
    let read = from_read (codes "graph") (graph_text first) g.0 g.1 in
    subst IsRead whole (record {
      well = graph_is_well_formed first g.0 read;
      small = graph_is_small first g.0 read;
      from = vertex_there g.0 a.0 u.0 u.1;
      to = vertex_there g.0 b.0 v.0 v.1;
    })

pub for_cut : (x : Result CutQuestion ReportText) (a b : ReportText) → ((q : CutQuestion) → x ≡ Ok q → IsRead q) → IsFor IsCut x a → IsFor IsCut x b → a ≡ b
for_cut (Ok q) a b read i j =
    let r = read q refl in
    cut_one q a b r.well (omega (arith, r.small)) r.from r.to i j
for_cut (Err fault) a b read i j = i ∙ sym j
