-- What `who` and `reach` print is a column and a row of the table.
use Rattle.std.proofs.Common.{◌≡◌, ℕ, Bool, true, List, refl, sym, ◌∙◌, ap}
use Rattle.std.specs.Prelude.{Some}
use Rattle.tg_names.specs.declared.right_sets.Right.{Right}
use Rattle.tg_names.specs.declared.right_sets.Rights.{Rights}
use Rattle.tg_names.specs.Sets.{rights_where}
use Rattle.tg_names.specs.Letters.{set_of_right}
use Rattle.tg_names.specs.Names.{Name}
use Rattle.tg_graph.specs.Graphs.{ProtectionGraph, has_vertex}
use Rattle.tg_names.proofs.Sets.{member-where, named-where}
use Rattle.tg_text.specs.Canonical.{in_name_order}
use Rattle.tg_text.proofs.NameOrder.{among, among-in_order}
use Rattle.tg_sharing.proofs.OneRight.{the_one, as_set}
use Rattle.tg_inputs.specs.Readings.{ReportText}
use Rattle.tg_reports.specs.Reports.{TellsSharing, IsReached}
use Rattle.tg_reports.specs.ReportLaws.{WhoIsAColumn, ReachIsARow}
use Rattle.tg_reports.proofs.OneReport.{same_truth, names_same, sets_same, one_set}

known : (g : ProtectionGraph) (v : Name) → among v (in_name_order g.vertices) ≡ true → has_vertex g v ≡ true
known g v h = sym (among-in_order v g.vertices) ∙ h

pub who_is_a_column : WhoIsAColumn
who_is_a_column g right y shares report hy tells lines =
    let s = set_of_right (Some right) in
    let vs = in_name_order g.vertices in
    let one : (x : Name) → among x vs ≡ true → lines.0 x ≡ shares x y =
    λ x hx.
    let kx = known g x hx in
    same_truth (lines.0 x) (shares x y) (λ t. (tells x y kx hy).1 (the_one g right s x y refl ((lines.1 x kx).0 t))) (λ t. (lines.1 x kx).1 (as_set g right s x y refl ((tells x y kx hy).0 t))) in
    let F : List ℕ → ReportText = λ bytes. record { bytes = bytes; status = 0 } in
    lines.2 ∙ ap F (names_same lines.0 (λ x. shares x y) vs one)

-- the rights with a 1 are those that x can come to have
is_reached : (g : ProtectionGraph) (x y : Name) (shares : Right → Name → Name → Bool) → has_vertex g x ≡ true → has_vertex g y ≡ true → ((right : Right) → TellsSharing g right (shares right)) → IsReached g x y (rights_where (λ right. shares right x y))
is_reached g x y shares hx hy tells = record {
  named = named-where (λ right. shares right x y);
  exact = λ right.
      let there = member-where (λ other. shares other x y) right in
      (λ h. (tells right x y hx hy).0 (sym there ∙ h), λ c. there ∙ (tells right x y hx hy).1 c);
}

pub reach_is_a_row : ReachIsARow
reach_is_a_row g x shares report hx tells lines =
    let vs = in_name_order g.vertices in
    let row : Name → Rights = λ y. rights_where (λ right. shares right x y) in
    let one : (y : Name) → among y vs ≡ true → lines.0 y ≡ row y = λ y hy. one_set g x y (lines.0 y) (row y) (lines.1 y (known g y hy)) (is_reached g x y shares hx (known g y hy) tells) in
    let F : List ℕ → ReportText = λ bytes. record { bytes = bytes; status = 0 } in
    lines.2 ∙ ap F (sets_same lines.0 row vs one)
