-- Rows as vertices and triples give them.
use Rattle.std.proofs.Common.{◌≡◌, ℕ, ◌<◌, true, false, List, [], ◌∷◌, Option, None, Some, IfSome, is_some, unwrap_or, slice_get, refl, sym, ap, subst, ◌∙◌, true≢false, bytes_eq, if◌then◌else◌, arith, ⊎_elim}
use Rattle.std.specs.Option.{option_map, option_map_or}
use Rattle.std.specs.Map.{keys_of, lookup}
use Rattle.std.specs.Ordering.{ordering_reverse}
use Rattle.std.specs.BTreeMap.{is_at}
use Rattle.std.specs.declared.cmp.Ordering.{Ordering}
use Rattle.std.specs.declared.cmp.Ordering.TheVariants.{Less, Equal, Greater}
use Rattle.std.specs.Cmp.Lexicographic.{nat_list_cmp_total, nat_list_eq_equiv, texts_ties}
use Rattle.std.proofs.lemmas.Bool.{cases_Bool}
use Rattle.std.proofs.lemmas.Bool.Decides.{nat_tests}
use Rattle.std.proofs.lemmas.Option.{none-some, slice_get-map}
use Rattle.std.proofs.lemmas.Map.{lookup-none}
use Rattle.std.proofs.lemmas.Map.Entries.{lookup_head, lookup_tail, none_past_head, none_below_head, lookup_from_place}
use Rattle.std.proofs.lemmas.Map.Keys.{sorted_tail}
use Rattle.std.proofs.lemmas.Map.Lookups.{exact_bytes}
use Rattle.std.proofs.lemmas.Map.Made.{is_some-lookup}
use Rattle.tg_names.specs.declared.right_sets.Rights.{Rights}
use Rattle.tg_names.specs.Sets.{member, rights_where, nothing, is_empty_set}
use Rattle.tg_names.specs.Names.{Name}
use Rattle.tg_graph.specs.Graphs.{ProtectionGraph, SameGraph}
use Rattle.tg_graph.specs.GraphOf.{graph_of}
use Rattle.tg_rows.specs.Rows.{Edges, Entries, IsGraph, IsRow, IsLabel, label_in, label_of}
use Rattle.tg_graph.specs.Additions.{label_between}
use Rattle.tg_graph_laws.specs.RowsOf.{IsRowOf, unless_empty}
use Rattle.tg_graph_laws.specs.Laws.{RowsOfGraph, SameRows}
use Rattle.tg_names.proofs.Sets.{where-member}
use Rattle.tg_rows.proofs.Places.{name_cmp, IsUp, distinct_from_up}
use Rattle.tg_graph.proofs.EmptyLabels.{label_named}

-- ---- rows in name order with the same labels are the same
at_head : (x : List ℕ × Rights) (xs : Edges) → lookup (bytes_eq x.0) (x ∷ xs) ≡ Some x.1
at_head x xs = lookup_head (bytes_eq x.0) x xs (nat_list_eq_equiv.refl x.0)

below_head : (v : List ℕ) (x : List ℕ × Rights) (xs : Edges) → IsUp (x ∷ xs) → name_cmp v x.0 ≡ Less → lookup (bytes_eq v) (x ∷ xs) ≡ None
below_head v x xs s l = ap (λ test. lookup test (x ∷ xs)) (λ i k. texts_ties v k i) ∙ lookup-none (is_at (name_cmp v)) (x ∷ xs) (none_below_head nat_list_cmp_total v x xs s l)

past_head : (v : List ℕ) (x : List ℕ × Rights) (xs : Edges) → IsUp (x ∷ xs) → bytes_eq v x.0 ≡ true → lookup (bytes_eq v) xs ≡ None
past_head v x xs s t = lookup-none (bytes_eq v) xs (none_past_head nat_list_eq_equiv v x xs (distinct_from_up (x ∷ xs) s) t)

module _ (x y : List ℕ × Rights) (xs ys : Edges) (s : IsUp (x ∷ xs)) (t : IsUp (y ∷ ys)) (h : (v : List ℕ) → lookup (bytes_eq v) (x ∷ xs) ≡ lookup (bytes_eq v) (y ∷ ys)) where
  by_heads : (r : Ordering) → name_cmp x.0 y.0 ≡ r → x.0 ≡ y.0
  by_heads Less p = absurd (none-some x.1 (sym (sym (at_head x xs) ∙ h x.0 ∙ below_head x.0 y ys t p)))
  by_heads Equal p = exact_bytes x.0 y.0 p
  by_heads Greater p = absurd (none-some y.1 (sym (sym (at_head y ys) ∙ sym (h y.0) ∙ below_head y.0 x xs s (nat_list_cmp_total.antisymm y.0 x.0 ∙ ap ordering_reverse p))))

  heads : x.0 ≡ y.0
  heads = by_heads (name_cmp x.0 y.0) refl

  values : x.1 ≡ y.1
  values = ap (λ o. unwrap_or o x.1) (sym (at_head x xs) ∙ h x.0 ∙ lookup_head (bytes_eq x.0) y ys (ap (bytes_eq x.0) (sym heads) ∙ nat_list_eq_equiv.refl x.0))

  tails : (v : List ℕ) → lookup (bytes_eq v) xs ≡ lookup (bytes_eq v) ys
  tails v = ⊎_elim
      (λ b. past_head v x xs s b ∙ sym (past_head v y ys t (ap (bytes_eq v) (sym heads) ∙ b)))
      (λ b. sym (lookup_tail (bytes_eq v) x xs b) ∙ h v ∙ lookup_tail (bytes_eq v) y ys (ap (bytes_eq v) (sym heads) ∙ b))
      (cases_Bool (bytes_eq v x.0))

pub same_edges : (xs ys : Edges) → IsUp xs → IsUp ys → ((v : List ℕ) → lookup (bytes_eq v) xs ≡ lookup (bytes_eq v) ys) → xs ≡ ys
same_edges [] [] s t h = refl
same_edges [] (y ∷ ys) s t h = absurd (none-some y.1 (h y.0 ∙ at_head y ys))
same_edges (x ∷ xs) [] s t h = absurd (none-some x.1 (sym (h x.0) ∙ at_head x xs))
same_edges (x ∷ xs) (y ∷ ys) s t h =
    let rest = same_edges xs ys (sorted_tail name_cmp x.0 (keys_of xs) s) (sorted_tail name_cmp y.0 (keys_of ys) t) (tails x y xs ys s t h) in
    λ i. (heads x y xs ys s t h i, values x y xs ys s t h i) ∷ rest i

-- ---- the row of a vertex
label_found : (o : Option Rights) → IfSome o IsLabel → o ≡ unless_empty (unwrap_or o nothing)
label_found None h = refl
label_found (Some s) h =
    let some : 0 < s.0 = h.some in
    let full : is_empty_set s ≡ false = grind (arith, nat_tests) in
    sym (ap (λ b. if b then None else Some s) full)

-- a row with the labels of u is the row of u
row_by_labels : (es : Entries) (u : List ℕ) (row : Edges) → IsRow row → ((v : List ℕ) → label_of es u v ≡ label_in row v) → IsRowOf (graph_of es) u row
row_by_labels es u row r same = record {
  sorted = r.sorted;
  edges = λ v.
      let o = lookup (bytes_eq v) row in
      label_found o (r.labelled v) ∙ ap unless_empty (sym (where-member (label_in row v) (label_named o (r.labelled v))) ∙ ap (λ s. rights_where (λ right. member s right)) (sym (same v)));
}

pub row_of-entry : (es : Entries) (u : List ℕ) (row : Edges) → IsGraph es → lookup (bytes_eq u) es ≡ Some row → IsRowOf (graph_of es) u row
row_of-entry es u row g e = row_by_labels es u row (subst (λ o. IfSome o IsRow) e (g.rows u)) (λ v. ap (λ o. option_map_or (λ row. label_in row v) o nothing) e)

-- there is one row of each name
pub row_of-unique : (g h : ProtectionGraph) (u : Name) (one other : Edges) → SameGraph g h → IsRowOf g u one → IsRowOf h u other → one ≡ other
row_of-unique g h u one other s r q =
    same_edges one other r.sorted q.sorted (λ v. r.edges v ∙ (λ i. unless_empty (label_between (record { vertices = g.vertices; holds = λ w right z. s.triples w right z i }) u v)) ∙ sym (q.edges v))

named_entry : (es : Entries) (u : List ℕ) (position : ℕ) (o : Option (List ℕ × Edges)) → IsGraph es → slice_get es position ≡ o → option_map (λ (e : List ℕ × Edges). e.0) o ≡ Some u → IsRowOf (graph_of es) u (option_map_or (λ (e : List ℕ × Edges). e.1) o [])
named_entry es u position None g e n = absurd (none-some u n)
named_entry es u position (Some (name, row)) g e n =
    let same : name ≡ u = ap (λ o. unwrap_or o name) n in
    row_of-entry es u row g (ap (λ k. lookup (bytes_eq k) es) (sym same) ∙ lookup_from_place nat_list_eq_equiv es position name row g.apart e)

pub rows_of_graph : RowsOfGraph
rows_of_graph es g position u h = named_entry es u position (slice_get es position) g refl (sym (slice_get-map (λ (e : List ℕ × Edges). e.0) es position) ∙ h)

-- ---- the same vertices and triples give the same rows
pub same_rows : SameRows
same_rows one other g h s u = by (lookup (bytes_eq u) one) (lookup (bytes_eq u) other) refl refl
  where
    by : (a b : Option Edges) → lookup (bytes_eq u) one ≡ a → lookup (bytes_eq u) other ≡ b → a ≡ b
    by None None e f = refl
    by (Some row) (Some line) e f = ap Some (row_of-unique (graph_of one) (graph_of other) u row line s (row_of-entry one u row g e) (row_of-entry other u line h f))
    by None (Some line) e f = absurd (true≢false (sym (ap is_some f) ∙ is_some-lookup (bytes_eq u) other ∙ sym (s.vertices u) ∙ sym (is_some-lookup (bytes_eq u) one) ∙ ap is_some e))
    by (Some row) None e f = absurd (true≢false (sym (ap is_some e) ∙ is_some-lookup (bytes_eq u) one ∙ s.vertices u ∙ sym (is_some-lookup (bytes_eq u) other) ∙ ap is_some f))
