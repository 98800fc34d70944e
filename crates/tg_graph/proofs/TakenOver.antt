-- Rows that are taken over from another graph.
use Rattle.std.proofs.Common.{◌≡◌, ℕ, zero, suc, ◌<◌, nat_lt, Bool, true, false, cond, List, [], ◌∷◌, ◌++◌, length, get_or, Option, None, Some, refl, sym, ap, subst, ◌∙◌, bytes_eq, is_some, map, IfSome, ◌||◌, arith, lt-ltb}
use Rattle.std.specs.Prelude.{if◌then◌else◌, slice_get, ⊤}
use Rattle.std.specs.Option.{option_map_or}
use Rattle.std.specs.List.{list_any, cons_option, IsDistinct, AllByRecursion}
use Rattle.std.specs.Map.{keys_of, lookup, set_value}
use Rattle.std.specs.Cmp.Lexicographic.{nat_list_eq_equiv}
use Rattle.std.proofs.lemmas.List.{length-map}
use Rattle.std.proofs.lemmas.List.Folds.{list_any-append}
use Rattle.std.proofs.lemmas.Map.Entries.{lookup_from_place}
use Rattle.std.proofs.lemmas.Map.Made.{is_some-lookup}
use Rattle.std.proofs.lemmas.Option.{none-some, same_Some, slice_get_within, get_or_from_slice_get}
use Rattle.indexmap.specs.IndexMap.{insert_entry, insert_all}
use Rattle.indexmap.specs.IndexSet.{insert_key, insert_all as set_all}
use Rattle.indexmap.specs.Layout.{set_value_at}
use Rattle.indexmap.proofs.SetLemmas.{keys_insert_all}
use Rattle.tg_rows.specs.Rows.{Edges, Entries, IsGraph, IsRow, is_target, is_known}
use Rattle.std.specs.List.{position, position_or_len}
use Rattle.std.proofs.lemmas.List.Sums.{position_or_len_is}
use Rattle.tg_graph.specs.Drafts.{entries_at, taken_over}
use Rattle.tg_graph.proofs.NewNames.{is_among}
use Rattle.tg_rows.proofs.Rows.{symm, same_bytes}
use Rattle.tg_graph.proofs.Drafts.{lookup-put, put-set}

-- a vertex that is apart from each of some is apart from the one at a place
apart-at : (x n : List ℕ) (ks : List (List ℕ)) (i : ℕ) → AllByRecursion (λ z. bytes_eq x z ≡ false) ks → slice_get ks i ≡ Some n → bytes_eq x n ≡ false
apart-at x n [] i h at = absurd (none-some n at)
apart-at x n (k ∷ ks) zero h at = ap (bytes_eq x) (sym (same_Some k n at)) ∙ h.0
apart-at x n (k ∷ ks) (suc i) h at = apart-at x n ks i h.1 at

-- the position of a vertex is where it stands
pub differs : (n : List ℕ) (ks : List (List ℕ)) (k i : ℕ) (d : List ℕ) → IsDistinct bytes_eq ks → k < i → slice_get ks i ≡ Some n → bytes_eq n (get_or ks k d) ≡ false
unfolding IsDistinct
differs n [] k i d h l at = absurd (none-some n at)
differs n (x ∷ ks) k zero d h l at = absurd (omega arith)
differs n (x ∷ ks) zero (suc i) d h l at = symm n x ∙ apart-at x n ks i h.0 at
differs n (x ∷ ks) (suc k) (suc i) d h l at = differs n ks k i d h.1 (omega arith) at

pub position-at : (ks : List (List ℕ)) (i : ℕ) (n : List ℕ) → IsDistinct bytes_eq ks → slice_get ks i ≡ Some n → position (bytes_eq n) ks ≡ Some i
position-at ks i n d at =
    let within : i < length ks = slice_get_within ks i n at in
    let first : position_or_len (bytes_eq n) ks ≡ i =
    position_or_len_is (bytes_eq n) ks i [] (omega (arith, within)) (λ k l. differs n ks k i [] d l at)
    (λ _. ap (bytes_eq n) (get_or_from_slice_get ks i n [] at) ∙ nat_list_eq_equiv.refl n) in
    ap (λ m. cond (nat_lt m (length ks)) (Some m) None) first ∙ ap (λ b. cond b (Some i) None) (lt-ltb i _ within)

-- ---- a row that is put in at its place
pub set-at : (es : Entries) (i : ℕ) (n : List ℕ) (row : Edges) → IsDistinct bytes_eq (keys_of es) → slice_get (keys_of es) i ≡ Some n → set_value_at es i row ≡ insert_entry bytes_eq es n row
unfolding IsDistinct
set-at [] i n row d at = absurd (none-some n at)
set-at (e ∷ es) zero n row d at = sym (ap (λ b. if b then (e.0, row) ∷ es else e ∷ insert_entry bytes_eq es n row) (ap (λ k. bytes_eq k e.0) (sym (same_Some e.0 n at)) ∙ nat_list_eq_equiv.refl e.0))
set-at (e ∷ es) (suc i) n row d at =
    ap (λ l. e ∷ l) (set-at es i n row d.1 at)
    ∙ sym (ap (λ b. if b then (e.0, row) ∷ es else e ∷ insert_entry bytes_eq es n row) (symm n e.0 ∙ apart-at e.0 n (keys_of es) i d.0 at))

-- the row at the place of a vertex is the vertex's
pub row-at : (es : Entries) (i : ℕ) (n : List ℕ) (row : Edges) → IsDistinct bytes_eq (keys_of es) → slice_get (keys_of es) i ≡ Some n → slice_get (map (λ e. e.1) es) i ≡ Some row → lookup (bytes_eq n) es ≡ Some row
row-at es i n row d name here = lookup_from_place nat_list_eq_equiv es i n row d (both es i name here)
  where
    both : (es : Entries) (i : ℕ) → slice_get (keys_of es) i ≡ Some n → slice_get (map (λ e. e.1) es) i ≡ Some row → slice_get es i ≡ Some (n, row)
    both [] i name here = absurd (none-some n name)
    both (e ∷ es) zero name here = λ k. Some (same_Some e.0 n name k, same_Some e.1 row here k)
    both (e ∷ es) (suc i) name here = both es i name here

-- and is set there
pub set_value-at : (es : Entries) (i : ℕ) (n : List ℕ) (row after : Edges) → IsDistinct bytes_eq (keys_of es) → slice_get (keys_of es) i ≡ Some n → lookup (bytes_eq n) es ≡ Some row → set_value_at es i after ≡ set_value (bytes_eq n) es after
set_value-at es i n row after d name found = set-at es i n after d name ∙ sym (put-set es n after (sym (is_some-lookup (bytes_eq n) es) ∙ ap is_some found))

-- ---- what stands at the places
-- each of the rows is that of the other graph
abbrev pub AreRowsOf : Entries → Entries → Type 0
AreRowsOf other [] = ⊤
AreRowsOf other (e ∷ es) = (lookup (bytes_eq e.0) other ≡ Some e.1) × AreRowsOf other es

pub rows_of-entries : (other : Entries) (places : List ℕ) → IsDistinct bytes_eq (keys_of other) → AreRowsOf other (entries_at other places)
rows_of-entries other [] d = tt
rows_of-entries other (p ∷ ps) d = by (slice_get other p) refl (rows_of-entries other ps d)
  where
    by : (o : Option (List ℕ × Edges)) → slice_get other p ≡ o → AreRowsOf other (entries_at other ps) → AreRowsOf other (cons_option o (entries_at other ps))
    by None e rest = rest
    by (Some (name, row)) e rest = (lookup_from_place nat_list_eq_equiv other p name row d e, rest)

-- a vertex whose row is among them has the other's row, and each other vertex its own
pub lookup-rows : (base other rows : Entries) (u : List ℕ) → AreRowsOf other rows → lookup (bytes_eq u) (insert_all bytes_eq base rows) ≡ cond (is_known rows u) (lookup (bytes_eq u) other) (lookup (bytes_eq u) base)
lookup-rows base other [] u h = refl
lookup-rows base other (e ∷ rows) u h =
    lookup-rows (insert_entry bytes_eq base e.0 e.1) other rows u h.1
    ∙ ap (λ o. cond (is_known rows u) (lookup (bytes_eq u) other) o) (lookup-put base e.0 e.1 u ∙ ap (λ b. cond b (Some e.1) (lookup (bytes_eq u) base)) (symm e.0 u))
    ∙ by (bytes_eq u e.0) refl (is_known rows u)
  where
    by : (b : Bool) → bytes_eq u e.0 ≡ b → (c : Bool) → cond c (lookup (bytes_eq u) other) (cond b (Some e.1) (lookup (bytes_eq u) base)) ≡ cond (b || c) (lookup (bytes_eq u) other) (lookup (bytes_eq u) base)
    by true t true = refl
    by true t false = sym (ap (λ n. lookup (bytes_eq n) other) (same_bytes u e.0 t) ∙ h.0)
    by false t true = refl
    by false t false = refl

-- ---- names stay
key-kept : (ks : List (List ℕ)) (x v : List ℕ) → is_among ks v ≡ true → is_among (insert_key bytes_eq ks x) v ≡ true
key-kept ks x v h = by (is_among ks x)
  where
    by : (b : Bool) → is_among (if b then ks else ks ++ x ∷ []) v ≡ true
    by true = h
    by false = list_any-append (bytes_eq v) ks (x ∷ []) ∙ ap (λ b. b || is_among (x ∷ []) v) h

pub keys-kept : (ks xs : List (List ℕ)) (v : List ℕ) → is_among ks v ≡ true → is_among (set_all bytes_eq ks xs) v ≡ true
keys-kept ks [] v h = h
keys-kept ks (x ∷ xs) v h = keys-kept (insert_key bytes_eq ks x) xs v (key-kept ks x v h)

-- ---- what is made of a graph
module _ (base other : Entries) (places : List ℕ) (g : IsGraph base) (h : IsGraph other) (same : keys_of (taken_over base other places) ≡ keys_of other) where
  abbrev rows : Entries
  rows = entries_at other places

  looked : (u : List ℕ) → lookup (bytes_eq u) (taken_over base other places) ≡ cond (is_known rows u) (lookup (bytes_eq u) other) (lookup (bytes_eq u) base)
  looked u = lookup-rows base other rows u (rows_of-entries other places h.apart)

  known_other : (v : List ℕ) → is_known other v ≡ true → is_known (taken_over base other places) v ≡ true
  known_other v k = ap (list_any (bytes_eq v)) same ∙ k

  known_base : (v : List ℕ) → is_known base v ≡ true → is_known (taken_over base other places) v ≡ true
  known_base v k = ap (list_any (bytes_eq v)) (keys_insert_all bytes_eq base rows) ∙ keys-kept (keys_of base) (keys_of rows) v k

  pub graph-taken : IsGraph (taken_over base other places)
  graph-taken = record {
    apart = subst (IsDistinct bytes_eq) (sym same) h.apart;
    known = λ u v e. target u v (is_known rows u) (sym (ap (λ o. option_map_or (λ row. is_target row v) o false) (looked u)) ∙ e);
    rows = λ u. subst (λ o. IfSome o IsRow) (sym (looked u)) (row u (is_known rows u));
    names = λ v k. h.names v (sym (ap (list_any (bytes_eq v)) same) ∙ k);
  }
    where
      target : (u v : List ℕ) (b : Bool) → option_map_or (λ row. is_target row v) (cond b (lookup (bytes_eq u) other) (lookup (bytes_eq u) base)) false ≡ true → is_known (taken_over base other places) v ≡ true
      target u v true e = known_other v (h.known u v e)
      target u v false e = known_base v (g.known u v e)

      row : (u : List ℕ) (b : Bool) → IfSome (cond b (lookup (bytes_eq u) other) (lookup (bytes_eq u) base)) IsRow
      row u true = h.rows u
      row u false = g.rows u

  -- there is one vertex for each of the other's
  pub length-taken : length (taken_over base other places) ≡ length other
  length-taken = sym (length-map (taken_over base other places) (λ (e : List ℕ × Edges). e.0)) ∙ ap length same ∙ length-map other (λ (e : List ℕ × Edges). e.0)
