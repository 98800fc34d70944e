-- The place of an edge in a row, and what a change at that place does.
use Rattle.std.proofs.Common.{◌≡◌, ℕ, zero, suc, ◌+◌, ◌<◌, ◌≤◌, Bool, true, false, cond, MatchBool, List, [], ◌∷◌, ◌++◌, length, get_or, set, Some, None, IsSome, is_some, refl, sym, ap, subst, ◌∙◌, bytes_eq, nat_cmp, arith, add-one, ⊎_elim, true≢false}
use Rattle.std.specs.Prelude.{if◌then◌else◌}
use Rattle.std.specs.List.{insert, remove, AllByRecursion, IsDistinct}
use Rattle.std.specs.List.Sorted.{IsStrictlySortedBy, IsNonDecreasingBy}
use Rattle.std.specs.Map.{keys_of, lookup, set_value, remove_entry}
use Rattle.std.specs.Ordering.{is_eq, is_lt, is_gt, ordering_index, ordering_reverse}
use Rattle.std.specs.declared.cmp.Ordering.{Ordering}
use Rattle.std.specs.declared.cmp.Ordering.TheVariants.{Less, Equal, Greater}
use Rattle.std.specs.Cmp.Lexicographic.{slice_cmp, nat_list_cmp_total, nat_list_eq_equiv, texts_ties}
use Rattle.std.proofs.lemmas.Bool.{cases_lt}
use Rattle.std.proofs.lemmas.List.Sorted.{searchable_from_sorted}
use Rattle.std.proofs.lemmas.Map.{NonePasses, lookup-insert, lookup-none, lookup-set_value, lookup-remove_entry, keys-set_value}
use Rattle.std.proofs.lemmas.Map.Keys.{IsDistinct-from_sorted}
use Rattle.std.proofs.lemmas.Map.Lookups.{exact_bytes}
use Rattle.tg_names.specs.declared.right_sets.Rights.{Rights}
use Rattle.tg_rows.specs.Rows.{Edges, IsRow, IsLabel, IsPlaceOf, IsGapFor, AreBelow, AreAbove, Puts, Adds}
use Rattle.tg_rows.proofs.Order.{not_less}
use Rattle.tg_rows.proofs.Rows.{symm, labelled-puts, adds-new}

-- the order of names
abbrev pub name_cmp : List ℕ → List ℕ → Ordering
name_cmp = slice_cmp nat_cmp

-- the targets are in strict name order
abbrev pub IsUp : Edges → Type 0
IsUp row = IsStrictlySortedBy name_cmp (keys_of row)

-- names that one is below are other names
pub apart_from_less : (x y : List ℕ) → name_cmp x y ≡ Less → bytes_eq y x ≡ false
apart_from_less x y e = symm y x ∙ texts_ties x y ∙ ap is_eq e

apart_from_greater : (x y : List ℕ) → name_cmp x y ≡ Greater → bytes_eq y x ≡ false
apart_from_greater x y e = symm y x ∙ texts_ties x y ∙ ap is_eq e

-- what holds of each target holds at a place
all_at : (P : List ℕ → Type 0) (row : Edges) (i : ℕ) (d : List ℕ × Rights) → i < length row → AllByRecursion P (keys_of row) → P (get_or row i d).0
all_at P [] i d h a = absurd (omega arith)
all_at P (e ∷ row) zero d h a = a.0
all_at P (e ∷ row) (suc i) d h a = all_at P row i d (omega arith) a.1

all_from_places : (P : List ℕ → Type 0) (row : Edges) → ((i : ℕ) (d : List ℕ × Rights) → i < length row → P (get_or row i d).0) → AllByRecursion P (keys_of row)
all_from_places P [] h = tt
all_from_places P (e ∷ row) h = (h 0 e (omega arith), all_from_places P row (λ i d l. h (suc i) d (omega arith)))

none_passes : (row : Edges) (v : List ℕ) → ((i : ℕ) (d : List ℕ × Rights) → i < length row → bytes_eq v (get_or row i d).0 ≡ false) → NonePasses (bytes_eq v) row
none_passes [] v h = tt
none_passes (e ∷ row) v h = (h 0 e (omega arith), none_passes row v (λ i d l. h (suc i) d (omega arith)))

-- ---- in a gap
module _ (row : Edges) (v : List ℕ) (i : ℕ) (g : IsGapFor row v i) where
  gap_passes : NonePasses (bytes_eq v) row
  gap_passes = none_passes row v (λ k d l. ⊎_elim
      (λ below. apart_from_less (get_or row k d).0 v (g.lesser k d below))
      (λ above. apart_from_greater (get_or row k d).0 v (g.greater k d above l))
      (cases_lt k i))

  pub gap-lookup : lookup (bytes_eq v) row ≡ None
  gap-lookup = lookup-none (bytes_eq v) row gap_passes

  pub puts-insert : (s : Rights) → Puts row (insert row i (v, s)) v (Some s)
  puts-insert s u = lookup-insert nat_list_eq_equiv v s u row i gap_passes

all-insert : (P : List ℕ → Type 0) (row : Edges) (i : ℕ) (e : List ℕ × Rights) → AllByRecursion P (keys_of row) → P e.0 → AllByRecursion P (keys_of (insert row i e))
all-insert P row zero e h p = (p, h)
all-insert P [] (suc i) e h p = (p, tt)
all-insert P (x ∷ row) (suc i) e h p = (h.0, all-insert P row i e h.1 p)

less_from_greater : (x y : List ℕ) → name_cmp x y ≡ Greater → name_cmp y x ≡ Less
less_from_greater x y e = nat_list_cmp_total.antisymm y x ∙ ap ordering_reverse e

up-insert : (row : Edges) (v : List ℕ) (s : Rights) (i : ℕ) → IsGapFor row v i → IsUp row → IsUp (insert row i (v, s))
unfolding IsStrictlySortedBy
up-insert row v s zero g h = (all_from_places (λ k. name_cmp v k ≡ Less) row (λ k d l. less_from_greater (get_or row k d).0 v (g.greater k d (omega arith) l)), h)
up-insert [] v s (suc i) g h = absurd (omega (arith, g.in_range))
up-insert (e ∷ row) v s (suc i) g h = (
  all-insert (λ k. name_cmp e.0 k ≡ Less) row i (v, s) h.0 (g.lesser 0 e (omega arith)),
  up-insert row v s i (record {
    in_range = omega (arith, g.in_range);
    lesser = λ k d l. g.lesser (suc k) d (omega arith);
    greater = λ k d a l. g.greater (suc k) d (omega arith) (omega arith);
  }) h.1,
)

pub row-insert : (row : Edges) (v : List ℕ) (s : Rights) (i : ℕ) → IsGapFor row v i → IsLabel s → IsRow row → IsRow (insert row i (v, s))
row-insert row v s i g l r = record { sorted = up-insert row v s i g r.sorted; labelled = labelled-puts row (insert row i (v, s)) v (Some s) r.labelled (puts-insert row v i g s) l }

-- ---- behind the others
insert-last : (row : Edges) (e : List ℕ × Rights) → insert row (length row) e ≡ row ++ e ∷ []
insert-last [] e = refl
insert-last (x ∷ row) e = ap (λ l. x ∷ l) (insert-last row e)

module _ (row new : Edges) (v : List ℕ) (s : Rights) (below : AreBelow row v (length row)) where
  gap-last : IsGapFor row v (length row)
  gap-last = record { in_range = omega arith; lesser = below; greater = λ k d a l. absurd (omega (arith, a, l)) }

  pub row-pushed : (pushed : Bool) → new ≡ (if pushed then row ++ (v, s) ∷ [] else row) → IsLabel s → IsRow row → IsRow new
  row-pushed true e l r = subst IsRow (sym (e ∙ sym (insert-last row (v, s)))) (row-insert row v s (length row) gap-last l r)
  row-pushed false e l r = subst IsRow (sym e) r

  pub adds-pushed : (pushed : Bool) → new ≡ (if pushed then row ++ (v, s) ∷ [] else row) → MatchBool pushed (Adds row new v s) (new ≡ row)
  adds-pushed true e =
      adds-new row new v s (gap-lookup row v (length row) gap-last)
      (subst (λ l. Puts row l v (Some s)) (insert-last row (v, s) ∙ sym e) (puts-insert row v (length row) gap-last s))
  adds-pushed false e = e

-- ---- at the edge's own place
module _ (e : List ℕ × Rights) (row : Edges) (v : List ℕ) where
  here : IsPlaceOf (e ∷ row) v zero → bytes_eq v e.0 ≡ true
  here p = ap (bytes_eq v) (p.target e) ∙ nat_list_eq_equiv.refl v

  module _ (i : ℕ) (p : IsPlaceOf (e ∷ row) v (suc i)) where
    later : IsPlaceOf row v i
    later = record { in_range = omega (arith, p.in_range); target = p.target }

    before : AllByRecursion (λ k. name_cmp e.0 k ≡ Less) (keys_of row) → bytes_eq v e.0 ≡ false
    before h = apart_from_less e.0 v (subst (λ k. name_cmp e.0 k ≡ Less) (later.target e) (all_at (λ k. name_cmp e.0 k ≡ Less) row i e later.in_range h))

pub lookup-place : (row : Edges) (v : List ℕ) (i : ℕ) (d : List ℕ × Rights) → IsUp row → IsPlaceOf row v i → lookup (bytes_eq v) row ≡ Some (get_or row i d).1
unfolding IsStrictlySortedBy
lookup-place [] v i d h p = absurd (omega (arith, p.in_range))
lookup-place (e ∷ row) v zero d h p = ap (λ b. cond b (Some e.1) (lookup (bytes_eq v) row)) (here e row v p)
lookup-place (e ∷ row) v (suc i) d h p = ap (λ b. cond b (Some e.1) (lookup (bytes_eq v) row)) (before e row v i p h.0) ∙ lookup-place row v i d h.1 (later e row v i p)

set-place : (row : Edges) (v : List ℕ) (s : Rights) (i : ℕ) → IsUp row → IsPlaceOf row v i → set row i (v, s) ≡ set_value (bytes_eq v) row s
unfolding IsStrictlySortedBy
set-place [] v s i h p = absurd (omega (arith, p.in_range))
set-place (e ∷ row) v s zero h p = (λ j. (sym (p.target e) j, s) ∷ row) ∙ sym (ap (λ b. cond b ((e.0, s) ∷ row) (e ∷ set_value (bytes_eq v) row s)) (here e row v p))
set-place (e ∷ row) v s (suc i) h p =
    ap (λ l. e ∷ l) (set-place row v s i h.1 (later e row v i p))
    ∙ sym (ap (λ b. cond b ((e.0, s) ∷ row) (e ∷ set_value (bytes_eq v) row s)) (before e row v i p h.0))

remove-place : (row : Edges) (v : List ℕ) (i : ℕ) → IsUp row → IsPlaceOf row v i → remove row i ≡ remove_entry (bytes_eq v) row
unfolding IsStrictlySortedBy
remove-place [] v i h p = absurd (omega (arith, p.in_range))
remove-place (e ∷ row) v zero h p = sym (ap (λ b. cond b row (e ∷ remove_entry (bytes_eq v) row)) (here e row v p))
remove-place (e ∷ row) v (suc i) h p =
    ap (λ l. e ∷ l) (remove-place row v i h.1 (later e row v i p))
    ∙ sym (ap (λ b. cond b row (e ∷ remove_entry (bytes_eq v) row)) (before e row v i p h.0))

all-remove : (P : List ℕ → Type 0) (row : Edges) (i : ℕ) → AllByRecursion P (keys_of row) → AllByRecursion P (keys_of (remove row i))
all-remove P [] zero h = tt
all-remove P [] (suc i) h = tt
all-remove P (e ∷ row) zero h = h.1
all-remove P (e ∷ row) (suc i) h = (h.0, all-remove P row i h.1)

up-remove : (row : Edges) (i : ℕ) → IsUp row → IsUp (remove row i)
unfolding IsStrictlySortedBy
up-remove [] zero h = tt
up-remove [] (suc i) h = tt
up-remove (e ∷ row) zero h = h.1
up-remove (e ∷ row) (suc i) h = (all-remove (λ k. name_cmp e.0 k ≡ Less) row i h.0, up-remove row i h.1)

pub distinct_from_up : (row : Edges) → IsUp row → IsDistinct bytes_eq (keys_of row)
distinct_from_up row h = subst (λ same. IsDistinct same (keys_of row)) (λ i x y. sym (texts_ties x y) i) (IsDistinct-from_sorted name_cmp (keys_of row) h)

module _ (row : Edges) (v : List ℕ) (i : ℕ) (r : IsRow row) (p : IsPlaceOf row v i) where
  place_some : IsSome (lookup (bytes_eq v) row)
  place_some = ap is_some (lookup-place row v i (v, record { 0 = 0 }) r.sorted p)

  pub puts-set : (s : Rights) → Puts row (set row i (v, s)) v (Some s)
  puts-set s u = ap (lookup (bytes_eq u)) (set-place row v s i r.sorted p) ∙ lookup-set_value nat_list_eq_equiv (bytes_eq v) (nat_list_eq_equiv.congr v) u s row place_some

  pub row-set : (s : Rights) → IsLabel s → IsRow (set row i (v, s))
  row-set s l = record {
    sorted = subst (IsStrictlySortedBy name_cmp) (sym (ap keys_of (set-place row v s i r.sorted p) ∙ keys-set_value (bytes_eq v) row s)) r.sorted;
    labelled = labelled-puts row (set row i (v, s)) v (Some s) r.labelled (puts-set s) l;
  }

  pub puts-remove : Puts row (remove row i) v None
  puts-remove u = ap (lookup (bytes_eq u)) (remove-place row v i r.sorted p) ∙ lookup-remove_entry nat_list_eq_equiv (bytes_eq v) (nat_list_eq_equiv.congr v) u row (distinct_from_up row r.sorted)

  pub row-remove : IsRow (remove row i)
  row-remove = record { sorted = up-remove row i r.sorted; labelled = labelled-puts row (remove row i) v None r.labelled puts-remove tt }

-- ---- what a search by name finds
rises : (row : Edges) (k : ℕ) (d : List ℕ × Rights) → IsUp row → suc k < length row → name_cmp (get_or row k d).0 (get_or row (suc k) d).0 ≡ Less
unfolding IsStrictlySortedBy
rises [] k d h l = absurd (omega arith)
rises (e ∷ row) zero d h l = all_at (λ k. name_cmp e.0 k ≡ Less) row zero d (omega arith) h.0
rises (e ∷ row) (suc k) d h l = rises row k d h.1 (omega arith)

searchable : (row : Edges) (v : List ℕ) → IsUp row → IsNonDecreasingBy (λ e. ordering_index (name_cmp e.0 v)) row
searchable row v h = searchable_from_sorted nat_list_cmp_total (λ (e : List ℕ × Rights). e.0) row v (λ k d z l.
    subst (λ m. is_lt (name_cmp (get_or row m d).0 (get_or row k d).0) ≡ false) (sym (add-one k))
    (not_less _ _ (rises row k d h (omega arith)) (nat_list_cmp_total.antisymm (get_or row (suc k) d).0 (get_or row k d).0)))

-- ---- a place that one comparison on either side settles
least : (r : Ordering) → ordering_index r ≤ 0 → r ≡ Less
least Less h = refl
least Equal h = absurd (omega arith)
least Greater h = absurd (omega arith)

most : (r : Ordering) → 2 ≤ ordering_index r → r ≡ Greater
most Less h = absurd (omega arith)
most Equal h = absurd (omega arith)
most Greater h = refl

-- an edge to n stands at the place i of the row, and the test of an order tells how n lies to v
tests_less : (r : Ordering) → is_lt r ≡ true → ordering_index r ≤ 0
tests_less Less h = omega arith
tests_less Equal h = absurd (true≢false (sym h))
tests_less Greater h = absurd (true≢false (sym h))

tests_greater : (r : Ordering) → is_gt r ≡ true → 2 ≤ ordering_index r
tests_greater Less h = absurd (true≢false (sym h))
tests_greater Equal h = absurd (true≢false (sym h))
tests_greater Greater h = omega arith

module _ (row : Edges) (v : List ℕ) (i : ℕ) (n : List ℕ) (up : IsUp row) (within : i < length row) (is : (d : List ℕ × Rights) → n ≡ (get_or row i d).0) where
  at_place : (d : List ℕ × Rights) → ordering_index (name_cmp (get_or row i d).0 v) ≡ ordering_index (name_cmp n v)
  at_place d = ap (λ (x : List ℕ). ordering_index (name_cmp x v)) (sym (is d))

  pub below_from_last : (place : ℕ) → place ≡ i + 1 → is_lt (name_cmp n v) ≡ true → AreBelow row v place
  below_from_last place s t k d b =
      least (name_cmp (get_or row k d).0 v) (omega (arith, searchable row v up k i d (omega arith) within, at_place d, tests_less _ t))

  pub above_from_first : is_gt (name_cmp n v) ≡ true → AreAbove row v i
  above_from_first t k d a b =
      most (name_cmp (get_or row k d).0 v) (omega (arith, searchable row v up i k d a b, at_place d, tests_greater _ t))

  pub place_from_equal : name_cmp n v ≡ Equal → IsPlaceOf row v i
  place_from_equal e = record { in_range = within; target = λ d. sym (is d) ∙ exact_bytes n v e }
