-- The lines of the edges out of one vertex of a graph.
use Rattle.std.proofs.Common.{◌≡◌, ℕ, ◌-◌, true, false, arith, unwrap_or, List, [], ◌∷◌, Option, None, Some, refl, ap, subst, ◌∙◌, bytes_eq, IfSome}
use Rattle.std.specs.Cmp.Lexicographic.{nat_list_eq_equiv}
use Rattle.std.specs.Option.{option_map_or}
use Rattle.std.specs.List.{flat_map, slice_get, position}
use Rattle.std.specs.Map.{keys_of, lookup}
use Rattle.std.proofs.lemmas.Map.Entries.{lookup_from_place}
use Rattle.std.proofs.lemmas.Map.Made.{is_some-lookup}
use Rattle.tg_names.specs.declared.right_sets.Rights.{Rights}
use Rattle.tg_names.specs.Names.{Name}
use Rattle.tg_graph.specs.GraphOf.{graph_of}
use Rattle.tg_graph.specs.Additions.{label_between}
use Rattle.tg_names.specs.Sets.{member, nothing, IsNamed}
use Rattle.tg_rows.specs.Rows.{Edges, Entries, IsGraph, IsLabel, IsRow, label_in, label_of, is_target, row_number}
use Rattle.tg_names.proofs.Sets.{same_set, member-where, named-where}
use Rattle.tg_rows.proofs.Places.{distinct_from_up}
use Rattle.tg_text.specs.Canonical.{edge_line, in_name_order, row_text}
use Rattle.tg_text.proofs.NameOrder.{among, among-in_order, strict-in_order}
use Rattle.tg_text.proofs.RowLines.{edge_of, row-lines, row-found, FoundAt}

-- ---- a row has labels
pub label-at : (row : Edges) (k : ℕ) (e : Name × Rights) → IsRow row → slice_get row k ≡ Some e → IsLabel e.1
label-at row k e r s = subst (λ o. IfSome o IsLabel) (lookup_from_place nat_list_eq_equiv row k e.0 e.1 (distinct_from_up row r.sorted) s) (r.labelled e.0)

named_in : (row : Edges) (v : Name) → IsRow row → IsNamed (label_in row v)
named_in row v r = by (lookup (bytes_eq v) row) (r.labelled v)
  where
    by : (o : Option Rights) → IfSome o IsLabel → IsNamed (unwrap_or o nothing)
    by None h = omega arith
    by (Some s) h = h.named

module _ (es : Entries) (g : IsGraph es) (u : Name) where
  named_of : (v : Name) → IsNamed (label_of es u v)
  named_of v = by (lookup (bytes_eq u) es) (g.rows u)
    where
      by : (o : Option Edges) → IfSome o IsRow → IsNamed (option_map_or (λ row. label_in row v) o nothing)
      by None h = omega arith
      by (Some row) h = named_in row v h

  -- the label by its members is the label that is kept
  pub between : (v : Name) → label_between (graph_of es) u v ≡ label_of es u v
  between v = same_set (label_between (graph_of es) u v) (label_of es u v) (member-where (λ right. member (label_of es u v) right)) (named-where (λ right. member (label_of es u v) right)) (named_of v)

  row_by_labels : row_text (graph_of es) (in_name_order (keys_of es)) u ≡ flat_map (λ v. edge_line u v (label_of es u v)) (in_name_order (keys_of es))
  row_by_labels = λ i. flat_map (λ v. edge_line u v (between v i)) (in_name_order (keys_of es))

  pub is-row : (row : Edges) → lookup (bytes_eq u) es ≡ Some row → IsRow row
  is-row row e = subst (λ o. IfSome o IsRow) e (g.rows u)

  no_label : (v : Name) → edge_line u v nothing ≡ []
  no_label v = refl

  abbrev kept : Option Edges → List Name → List ℕ
  kept o vs = flat_map (λ v. edge_line u v (option_map_or (λ row. label_in row v) o nothing)) vs

  target_known : (row : Edges) → lookup (bytes_eq u) es ≡ Some row → (v : Name) → among v (keys_of row) ≡ true → among v (in_name_order (keys_of es)) ≡ true
  target_known row e v m =
      among-in_order v (keys_of es)
      ∙ g.known u v (ap (λ o. option_map_or (λ row. is_target row v) o false) e ∙ is_some-lookup (bytes_eq v) row ∙ m)

  pub row-text_some : (row : Edges) → lookup (bytes_eq u) es ≡ Some row → row_text (graph_of es) (in_name_order (keys_of es)) u ≡ flat_map (edge_of u) row
  row-text_some row e =
      row_by_labels ∙ ap (λ o. kept o (in_name_order (keys_of es))) e
      ∙ row-lines (edge_line u) no_label (in_name_order (keys_of es)) row (strict-in_order (keys_of es)) (is-row row e).sorted (target_known row e)

  no_lines : (vs : List Name) → kept None vs ≡ []
  no_lines [] = refl
  no_lines (v ∷ vs) = no_lines vs

  pub row-text_none : lookup (bytes_eq u) es ≡ None → row_text (graph_of es) (in_name_order (keys_of es)) u ≡ []
  row-text_none e = row_by_labels ∙ ap (λ o. kept o (in_name_order (keys_of es))) e ∙ no_lines (in_name_order (keys_of es))

  -- ---- what `position` says
  pub found_row : (i : ℕ) → position (bytes_eq u) (keys_of es) ≡ Some i → lookup (bytes_eq u) es ≡ Some (row_number es i)
  found_row i e =
      let f = subst (FoundAt u 0 es) e (row-found u es) in
      f.1 ∙ (let same : i - 0 ≡ i = omega arith in ap (λ n. Some (row_number es n)) same)

  pub no_row : position (bytes_eq u) (keys_of es) ≡ None → lookup (bytes_eq u) es ≡ None
  no_row e = subst (FoundAt u 0 es) e (row-found u es)
