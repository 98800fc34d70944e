-- The numbers that sets get, in order of their first position.
use Rattle.std.proofs.Common.{◌≡◌, ℕ, ◌<◌, ◌≤◌, ◌+◌, true, false, List, [], ◌∷◌, ◌++◌, Option, Some, None, refl, sym, ap, ◌∙◌, nat_eq, length, get_or, slice_get, set, is_some, arith, true≢false, length-append, length-set, inl, inr, ◌⊎◌}
use Rattle.std.specs.List.{list_any}
use Rattle.std.proofs.lemmas.Bool.{cases_lt, eq-eqb}
use Rattle.std.proofs.lemmas.List.{get_or_append_left, get_or-set_same, get_or-set_other}
use Rattle.std.proofs.lemmas.List.Folds.{list_any_at}
use Rattle.std.proofs.lemmas.Option.{slice_get_within, slice_get-get_or, get_or_from_slice_get, slice_get_read}
use Rattle.std.proofs.Math.Seq.{get_or-append_seam}
use Rattle.tg_islands.specs.declared.joining.Numbers.{Numbers}
use Rattle.tg_islands.specs.Numbering.{InOrderOfFirstPosition, AreCounted, number_in}
use Rattle.tg_islands.specs.DisjointSets.{set_of}
use Rattle.tg_islands.specs.JoinedSets.{NumbersUpTo, NumberSets}
use Rattle.tg_islands.proofs.DisjointSets.{same_or_not}

one_number : (o : Option ℕ) (m k : ℕ) → o ≡ Some m → o ≡ Some k → m ≡ k
one_number o m k p q = cc

none_or_some : {A : Type 0} (o : Option ℕ) (m : ℕ) → o ≡ None → o ≡ Some m → A
none_or_some o m p q = absurd (true≢false (sym (ap is_some q) ∙ ap is_some p))

-- what a read of a number gives
pub number-read : (numbers : List (Option ℕ)) (a : ℕ) (read : Option ℕ) → a < length numbers → read ≡ get_or numbers a read → number_in numbers a ≡ read
number-read numbers a read h e = get_or_from_slice_get numbers a read None (slice_get_read numbers (length numbers) a read refl h e)

before_or_at : (a i : ℕ) → a < i + 1 → (a < i) ⊎ (a ≡ i)
before_or_at a i h = by (cases_lt a i)
  where
    by : (a < i) ⊎ (i ≤ a) → (a < i) ⊎ (a ≡ i)
    by (inl l) = inl l
    by (inr l) = inr (omega arith)

-- ---- one number more
module _ (xs ys : List ℕ) (x i : ℕ) (len : length xs ≡ i) (is : ys ≡ xs ++ x ∷ []) where
  longer : length ys ≡ i + 1
  longer = ap length is ∙ length-append xs (x ∷ []) ∙ ap (λ k. k + 1) len

  left : (a : ℕ) → a < i → slice_get ys a ≡ slice_get xs a
  left a h =
      slice_get-get_or ys a 0 (omega (arith, longer))
      ∙ ap (λ zs. Some (get_or zs a 0)) is
      ∙ ap Some (get_or_append_left xs (x ∷ []) 0 a (omega (arith, len)))
      ∙ sym (slice_get-get_or xs a 0 (omega (arith, len)))

  last : slice_get ys i ≡ Some x
  last =
      slice_get-get_or ys i 0 (omega (arith, longer))
      ∙ ap (λ zs. Some (get_or zs i 0)) is
      ∙ ap (λ k. Some (get_or (xs ++ x ∷ []) k 0)) (sym len)
      ∙ ap Some (get_or-append_seam xs x [] 0)

  module _ (first : InOrderOfFirstPosition xs) (smaller : (k : ℕ) → k < x → (b : ℕ) × (b < i) × (slice_get xs b ≡ Some k)) where
    in_order : (a m : ℕ) → slice_get ys a ≡ Some m → (k : ℕ) → k < m → (a < i) ⊎ (a ≡ i) → (b : ℕ) × (b < a) × (slice_get ys b ≡ Some k)
    in_order a m e k h (inl l) = let o = first a m (sym (left a l) ∙ e) k h in (o.0, o.1, (let lt = o.1 in left o.0 (omega arith)) ∙ o.2)
    in_order a m e k h (inr q) =
        let same : m ≡ x = one_number (slice_get ys i) m x (ap (slice_get ys) (sym q) ∙ e) last in
        let u = smaller k (omega arith) in
        (u.0, (let lt = u.1 in omega arith), left u.0 u.1 ∙ u.2)

    still_ordered : InOrderOfFirstPosition ys
    still_ordered a m e k h = in_order a m e k h (before_or_at a i (let w = slice_get_within ys a m e in omega (arith, longer)))

-- ---- the next position is in a set that has a number
module _ (sets : List ℕ) (i x : ℕ) (old new : Numbers) (n : NumbersUpTo sets i old) (has : number_in old.of_sets.items (set_of sets i) ≡ Some x) (of_sets : new.of_sets.items ≡ old.of_sets.items) (numbers : new.numbers.items ≡ old.numbers.items ++ x ∷ []) (count : new.count ≡ old.count) where
  as_before : (s : ℕ) → number_in new.of_sets.items s ≡ number_in old.of_sets.items s
  as_before s = ap (λ xs. number_in xs s) of_sets

  keep : (a : ℕ) → a < i → slice_get new.numbers.items a ≡ slice_get old.numbers.items a
  keep = left old.numbers.items new.numbers.items x i n.len numbers

  given_again : (a : ℕ) → (a < i) ⊎ (a ≡ i) → number_in new.of_sets.items (set_of sets a) ≡ slice_get new.numbers.items a
  given_again a (inl h) = as_before (set_of sets a) ∙ n.given a h ∙ sym (keep a h)
  given_again a (inr e) =
      as_before (set_of sets a)
      ∙ ap (λ k. number_in old.of_sets.items (set_of sets k)) e
      ∙ has
      ∙ sym (last old.numbers.items new.numbers.items x i n.len numbers)
      ∙ ap (slice_get new.numbers.items) (sym e)

  pub numbers-again : NumbersUpTo sets (i + 1) new
  numbers-again = record {
    slots = ap length of_sets ∙ n.slots;
    len = longer old.numbers.items new.numbers.items x i n.len numbers;
    few = (let few = n.few in omega (arith, count));
    given = λ a h. given_again a (before_or_at a i h);
    from = λ s m e. let f = n.from s m (sym (as_before s) ∙ e) in ((let lt = f.0 in omega (arith, count)), (f.1.0, (let lt = f.1.1 in omega arith), f.1.2));
    apart = λ s t m p q. n.apart s t m (sym (as_before s) ∙ p) (sym (as_before t) ∙ q);
    used = λ m h. let u = n.used m (omega (arith, count)) in (u.0, (let lt = u.1 in omega arith), keep u.0 u.1 ∙ u.2);
    ordered = still_ordered old.numbers.items new.numbers.items x i n.len numbers n.ordered (λ k h. n.used k (let f = (n.from (set_of sets i) x has).0 in omega arith));
  }

-- ---- the next position is in a set that has none, and gets the next number
module _ (sets : List ℕ) (i : ℕ) (old new : Numbers) (n : NumbersUpTo sets i old) (slot : set_of sets i < length sets) (none : number_in old.of_sets.items (set_of sets i) ≡ None) (of_sets : new.of_sets.items ≡ set old.of_sets.items (set_of sets i) (Some old.count)) (numbers : new.numbers.items ≡ old.numbers.items ++ old.count ∷ []) (count : new.count ≡ old.count + 1) where
  there : number_in new.of_sets.items (set_of sets i) ≡ Some old.count
  there = ap (λ xs. number_in xs (set_of sets i)) of_sets ∙ get_or-set_same old.of_sets.items (set_of sets i) (Some old.count) None (omega (arith, n.slots))

  other : (s : ℕ) → nat_eq s (set_of sets i) ≡ false → number_in new.of_sets.items s ≡ number_in old.of_sets.items s
  other s e =
      ap (λ xs. number_in xs s) of_sets
      ∙ get_or-set_other old.of_sets.items (set_of sets i) s (Some old.count) None (λ q. true≢false (sym (eq-eqb s (set_of sets i) q) ∙ e))

  stay : (a : ℕ) → a < i → slice_get new.numbers.items a ≡ slice_get old.numbers.items a
  stay = left old.numbers.items new.numbers.items old.count i n.len numbers

  end : slice_get new.numbers.items i ≡ Some old.count
  end = last old.numbers.items new.numbers.items old.count i n.len numbers

  abbrev SameOrNot : ℕ → Type 0
  SameOrNot s = (s ≡ set_of sets i) ⊎ (nat_eq s (set_of sets i) ≡ false)

  -- a position that has a number is in another set
  numbered_other : (a : ℕ) → a < i → SameOrNot (set_of sets a) → nat_eq (set_of sets a) (set_of sets i) ≡ false
  numbered_other a h (inl e) =
      none_or_some (number_in old.of_sets.items (set_of sets i)) (get_or old.numbers.items a 0) none (ap (number_in old.of_sets.items) (sym e) ∙ n.given a h ∙ slice_get-get_or old.numbers.items a 0 (omega (arith, n.len)))
  numbered_other a h (inr e) = e

  given : (a : ℕ) → (a < i) ⊎ (a ≡ i) → number_in new.of_sets.items (set_of sets a) ≡ slice_get new.numbers.items a
  given a (inl h) = other (set_of sets a) (numbered_other a h (same_or_not (set_of sets a) (set_of sets i))) ∙ n.given a h ∙ sym (stay a h)
  given a (inr e) = ap (λ k. number_in new.of_sets.items (set_of sets k)) e ∙ there ∙ sym end ∙ ap (slice_get new.numbers.items) (sym e)

  is_count : (s m : ℕ) → s ≡ set_of sets i → number_in new.of_sets.items s ≡ Some m → m ≡ old.count
  is_count s m q e = one_number (number_in new.of_sets.items (set_of sets i)) m old.count (ap (number_in new.of_sets.items) (sym q) ∙ e) there

  was_below : (s m : ℕ) → nat_eq s (set_of sets i) ≡ false → number_in new.of_sets.items s ≡ Some m → m < old.count
  was_below s m q e = (n.from s m (sym (other s q) ∙ e)).0

  from : (s m : ℕ) → number_in new.of_sets.items s ≡ Some m → SameOrNot s → (m < new.count) × ((a : ℕ) × (a < i + 1) × (set_of sets a ≡ s))
  from s m e (inl q) = ((let is = is_count s m q e in omega (arith, count)), (i, omega arith, sym q))
  from s m e (inr q) = let f = n.from s m (sym (other s q) ∙ e) in ((let lt = f.0 in omega (arith, count)), (f.1.0, (let lt = f.1.1 in omega arith), f.1.2))

  apart : (s t m : ℕ) → number_in new.of_sets.items s ≡ Some m → number_in new.of_sets.items t ≡ Some m → SameOrNot s → SameOrNot t → s ≡ t
  apart s t m p q (inl e) (inl f) = e ∙ sym f
  apart s t m p q (inl e) (inr f) = absurd (let is = is_count s m e p in let lt = was_below t m f q in omega arith)
  apart s t m p q (inr e) (inl f) = absurd (let is = is_count t m f q in let lt = was_below s m e p in omega arith)
  apart s t m p q (inr e) (inr f) = n.apart s t m (sym (other s e) ∙ p) (sym (other t f) ∙ q)

  used : (m : ℕ) → (m < old.count) ⊎ (m ≡ old.count) → (a : ℕ) × (a < i + 1) × (slice_get new.numbers.items a ≡ Some m)
  used m (inl h) = let u = n.used m h in (u.0, (let lt = u.1 in omega arith), stay u.0 u.1 ∙ u.2)
  used m (inr e) = (i, omega arith, end ∙ ap Some (sym e))

  pub numbers-next : NumbersUpTo sets (i + 1) new
  numbers-next = record {
    slots = ap length of_sets ∙ length-set old.of_sets.items (set_of sets i) (Some old.count) ∙ n.slots;
    len = longer old.numbers.items new.numbers.items old.count i n.len numbers;
    few = (let few = n.few in omega (arith, count));
    given = λ a h. given a (before_or_at a i h);
    from = λ s m e. from s m e (same_or_not s (set_of sets i));
    apart = λ s t m p q. apart s t m p q (same_or_not s (set_of sets i)) (same_or_not t (set_of sets i));
    used = λ m h. used m (before_or_at m old.count (omega (arith, count)));
    ordered = still_ordered old.numbers.items new.numbers.items old.count i n.len numbers n.ordered n.used;
  }

-- ---- all positions have numbers
module _ (sets : List ℕ) (n : Numbers) (up : NumbersUpTo sets (length sets) n) where
  stands : (m : ℕ) → (a : ℕ) × (a < length sets) × (slice_get n.numbers.items a ≡ Some m) → list_any (nat_eq m) n.numbers.items ≡ true
  stands m (a, h, e) =
      list_any_at (nat_eq m) n.numbers.items a m (slice_get_within n.numbers.items a m e) (ap (nat_eq m) (get_or_from_slice_get n.numbers.items a m m e) ∙ eq-eqb m m refl)

  pub numbers-counted : AreCounted n.numbers.items n.count
  numbers-counted = record {
    below = λ a m e. (up.from (set_of sets a) m (up.given a (let w = slice_get_within n.numbers.items a m e in omega (arith, up.len)) ∙ e)).0;
    used = λ m h. stands m (up.used m h);
  }

  item : (a : ℕ) → a < length sets → slice_get n.numbers.items a ≡ Some (get_or n.numbers.items a 0)
  item a h = slice_get-get_or n.numbers.items a 0 (omega (arith, up.len))

  one_set : (a b : ℕ) → a < length sets → b < length sets → slice_get n.numbers.items a ≡ slice_get n.numbers.items b → set_of sets a ≡ set_of sets b
  one_set a b h k e = up.apart (set_of sets a) (set_of sets b) (get_or n.numbers.items a 0) (up.given a h ∙ item a h) (up.given b k ∙ sym e ∙ item a h)

  pub numbers-sets : NumberSets sets n.numbers.items
  numbers-sets = record {
    len = up.len;
    exact = λ a b h k. (λ e. one_set a b h k e, λ e. sym (up.given a h) ∙ ap (number_in n.of_sets.items) e ∙ up.given b k);
    ordered = up.ordered;
  }
