-- A graph read by positions.
use Rattle.std.proofs.Common.{◌≡◌, ℕ, ◌<◌, ◌≤◌, Bool, true, false, cond, List, [], Option, Some, None, refl, sym, ap, subst, ◌∙◌, bytes_eq, nat_lt, IfSome, unwrap_or, length, get_or, slice_get, arith, true≢false}
use Rattle.std.specs.List.{list_any, position, position_or_len, IsDistinct}
use Rattle.std.specs.Map.{keys_of, lookup}
use Rattle.std.specs.Option.{option_map, option_map_or}
use Rattle.std.specs.Cmp.Lexicographic.{nat_list_eq_equiv}
use Rattle.std.proofs.lemmas.Option.{slice_get_within, get_or_from_slice_get, slice_get-get_or, slice_get-map}
use Rattle.std.proofs.lemmas.Bool.{both_ways, lt-ltb, ltb-false}
use Rattle.std.proofs.lemmas.List.Folds.{list_any_at, Any-from_list_any}
use Rattle.std.proofs.lemmas.List.Sums.{fails_before_first, position_or_len_is}
use Rattle.std.proofs.lemmas.Map.Made.{AllPairs-from_IsDistinct}
use Rattle.std.proofs.lemmas.Map.Entries.{place_from_lookup, lookup_from_place}
use Rattle.std.proofs.lemmas.Slice.Eq.{bytes_eq-Decides}
use Rattle.tg_rows.proofs.Places.{distinct_from_up}
use Rattle.tg_names.specs.declared.right_sets.Right.{Right}
use Rattle.tg_names.specs.declared.right_sets.Rights.{Rights}
use Rattle.tg_names.specs.Sets.{member, nothing}
use Rattle.tg_names.specs.Names.{Name}
use Rattle.tg_graph.specs.GraphOf.{graph_of}
use Rattle.tg_rows.specs.Rows.{Edges, Entries, IsGraph, IsRow, label_in, row_number}
use Rattle.tg_rows.proofs.Rows.{same_bytes}
use Rattle.tg_names.proofs.Sets.{member-nothing}

module _ (ks : List Name) (apart : IsDistinct bytes_eq ks) where
  -- the position of a name is where it stands
  pub position-at : (b : ℕ) (v : Name) → slice_get ks b ≡ Some v → position (bytes_eq v) ks ≡ Some b
  position-at b v e =
      ap (λ n. cond (nat_lt n (length ks)) (Some n) None) (position_or_len_is (bytes_eq v) ks b v (omega (arith, lt)) before (λ _. ap (bytes_eq v) here ∙ nat_list_eq_equiv.refl v))
      ∙ ap (λ c. cond c (Some b) None) (lt-ltb b (length ks) lt)
    where
      lt : b < length ks
      lt = slice_get_within ks b v e

      here : get_or ks b v ≡ v
      here = get_or_from_slice_get ks b v v e

      before : (k : ℕ) → k < b → bytes_eq v (get_or ks k v) ≡ false
      before k h = by (bytes_eq v (get_or ks k v)) refl
        where
          by : (t : Bool) → bytes_eq v (get_or ks k v) ≡ t → bytes_eq v (get_or ks k v) ≡ false
          by false p = p
          by true p = absurd (AllPairs-from_IsDistinct bytes_eq-Decides ks apart k b v h lt (sym (same_bytes v (get_or ks k v) p) ∙ sym here))

-- a name of the list stands somewhere
pub place_of : (ks : List Name) (v : Name) → list_any (bytes_eq v) ks ≡ true → (a : ℕ) × (slice_get ks a ≡ Some v)
place_of ks v h =
    let any = Any-from_list_any (bytes_eq v) ks h in
    (any.0, slice_get-get_or ks any.0 any.1 any.2 ∙ ap Some (any.3 ∙ sym (same_bytes v any.1 any.4)))

pub place-known : (ks : List Name) (a : ℕ) (v : Name) → slice_get ks a ≡ Some v → list_any (bytes_eq v) ks ≡ true
place-known ks a v e =
    list_any_at (bytes_eq v) ks a v (slice_get_within ks a v e) (ap (bytes_eq v) (get_or_from_slice_get ks a v v e) ∙ nat_list_eq_equiv.refl v)

-- it has a position
pub position-none : (vs : List Name) (v : Name) → list_any (bytes_eq v) vs ≡ true → position (bytes_eq v) vs ≡ None → ⊥
position-none vs v there none = go (nat_lt (position_or_len (bytes_eq v) vs) (length vs)) refl none
  where
    go : (b : Bool) → nat_lt (position_or_len (bytes_eq v) vs) (length vs) ≡ b → cond b (Some (position_or_len (bytes_eq v) vs)) None ≡ None → ⊥
    go true e h = cc
    go false e h =
        let at = place_of vs v there in
        let past : length vs ≤ position_or_len (bytes_eq v) vs = ltb-false (position_or_len (bytes_eq v) vs) (length vs) e in
        let lt : at.0 < position_or_len (bytes_eq v) vs = omega (arith, past, slice_get_within vs at.0 v at.1) in
        both_ways (bytes_eq v (get_or vs at.0 v)) (fails_before_first (bytes_eq v) vs at.0 v lt) (ap (bytes_eq v) (get_or_from_slice_get vs at.0 v v at.1) ∙ nat_list_eq_equiv.refl v)

-- the row of a vertex
pub record RowOf (es : Entries) (a : ℕ) (u : Name) : Type 0 where
  pub row : Edges
  pub place : slice_get es a ≡ Some (u, row)
  pub number : row_number es a ≡ row
  pub found : lookup (bytes_eq u) es ≡ Some row
  pub sorted : IsRow row

pub row_of : (es : Entries) → IsGraph es → (a : ℕ) (u : Name) → slice_get (keys_of es) a ≡ Some u → RowOf es a u
row_of es ok a u e = by (slice_get es a) refl (sym (slice_get-map (λ (k : Name × Edges). k.0) es a) ∙ e)
  where
    by : (o : Option (Name × Edges)) → slice_get es a ≡ o → option_map (λ (k : Name × Edges). k.0) o ≡ Some u → RowOf es a u
    by None p q = cc
    by (Some (k, row)) p q =
        let same : k ≡ u = cc in
        let place : slice_get es a ≡ Some (u, row) = p ∙ ap (λ n. Some (n, row)) same in
        let found : lookup (bytes_eq u) es ≡ Some row = lookup_from_place nat_list_eq_equiv es a u row ok.apart place in
        record {
          row = row;
          place = place;
          number = ap (λ o. option_map_or (λ (edge : Name × Edges). edge.1) o []) place;
          found = found;
          sorted = subst (λ o. IfSome o IsRow) found (ok.rows u);
        }

module _ (es : Entries) (ok : IsGraph es) (a : ℕ) (u : Name) (e : slice_get (keys_of es) a ≡ Some u) where
  -- the rights of a vertex are those of the labels in its row
  pub holds-row : (right : Right) (v : Name) → (graph_of es).holds u right v ≡ member (label_in (row_number es a) v) right
  holds-row right v =
      let r = row_of es ok a u e in
      ap (λ o. member (option_map_or (λ (row : Edges). label_in row v) o nothing) right) r.found ∙ ap (λ row. member (label_in row v) right) (sym r.number)

  pub holds-place : (place : ℕ) (v : Name) (label : Rights) (right : Right) → slice_get (row_number es a) place ≡ Some (v, label) → (graph_of es).holds u right v ≡ member label right
  holds-place place v label right p =
      let r = row_of es ok a u e in
      holds-row right v
      ∙ ap (λ o. member (unwrap_or o nothing) right) (lookup_from_place nat_list_eq_equiv (row_number es a) place v label (distinct_from_up (row_number es a) (subst IsRow (sym r.number) r.sorted).sorted) p)

  pub place-holds : (right : Right) (v : Name) → (graph_of es).holds u right v ≡ true → (place : ℕ) × (label : Rights) × (slice_get (row_number es a) place ≡ Some (v, label)) × (member label right ≡ true)
  place-holds right v h = by (lookup (bytes_eq v) (row_number es a)) refl (sym (holds-row right v) ∙ h)
    where
      by : (o : Option Rights) → lookup (bytes_eq v) (row_number es a) ≡ o → member (unwrap_or o nothing) right ≡ true → (place : ℕ) × (label : Rights) × (slice_get (row_number es a) place ≡ Some (v, label)) × (member label right ≡ true)
      by None p m = absurd (true≢false (sym m ∙ member-nothing right))
      by (Some label) p m =
          let f = place_from_lookup (bytes_eq v) (row_number es a) label p in
          (f.0, label, f.2 ∙ ap (λ n. Some (n, label)) (sym (same_bytes v f.1 f.3)), m)
