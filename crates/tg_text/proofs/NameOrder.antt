-- Names in strict order.
use Rattle.std.proofs.Common.{◌≡◌, Bool, true, false, ◌||◌, List, [], ◌∷◌, Ordering, refl, sym, ap, subst, ◌∙◌, true≢false, bytes_eq, nat_cmp}
use Rattle.std.specs.declared.cmp.Ordering.TheVariants.{Less, Equal, Greater}
use Rattle.std.specs.BTreeSet.{insert_key}
use Rattle.std.specs.Cmp.Lexicographic.{slice_cmp, nat_list_cmp_total, texts_ties}
use Rattle.std.specs.Ordering.{ordering_reverse, match_ordering, is_eq}
use Rattle.std.specs.List.{AllByRecursion, list_any}
use Rattle.std.specs.List.Sorted.{IsStrictlySortedBy}
use Rattle.std.proofs.lemmas.Map.Lookups.{exact_bytes}
use Rattle.std.proofs.lemmas.Slice.Eq.{bytes_eq-Decides}
use Rattle.tg_names.specs.Names.{Name}
use Rattle.tg_text.specs.Canonical.{name_cmp, in_name_order}

abbrev pub Strict : List Name → Type 0
Strict = IsStrictlySortedBy (slice_cmp nat_cmp)

abbrev pub Above : Name → List Name → Type 0
Above v = AllByRecursion (λ u. slice_cmp nat_cmp v u ≡ Less)

abbrev pub among : Name → List Name → Bool
among v = list_any (bytes_eq v)

pub same_name-refl : (v : Name) → bytes_eq v v ≡ true
same_name-refl v = (bytes_eq-Decides v v).1 refl

or_swap : (a b c : Bool) → (a || (b || c)) ≡ (b || (a || c))
or_swap true true c = refl
or_swap true false c = refl
or_swap false true c = refl
or_swap false false c = refl

or_twice : (a c : Bool) → (a || c) ≡ (a || (a || c))
or_twice true c = refl
or_twice false c = refl

-- ---- membership
pub among-insert : (v k : Name) (ks : List Name) → among v (insert_key name_cmp ks k) ≡ (bytes_eq v k || among v ks)
among-insert v k [] = refl
among-insert v k (x ∷ xs) = by (slice_cmp nat_cmp k x) refl (among-insert v k xs)
  where
    by : (r : Ordering) → slice_cmp nat_cmp k x ≡ r → among v (insert_key name_cmp xs k) ≡ (bytes_eq v k || among v xs)
        → among v (match_ordering r (k ∷ x ∷ xs) (x ∷ xs) (x ∷ insert_key name_cmp xs k)) ≡ (bytes_eq v k || (bytes_eq v x || among v xs))
    by Less e h = refl
    by Equal e h = or_twice (bytes_eq v x) (among v xs) ∙ ap (λ n. bytes_eq v n || (bytes_eq v x || among v xs)) (sym (exact_bytes k x e))
    by Greater e h = ap (λ b. bytes_eq v x || b) h ∙ or_swap (bytes_eq v x) (bytes_eq v k) (among v xs)

pub among-in_order : (v : Name) (vs : List Name) → among v (in_name_order vs) ≡ among v vs
among-in_order v [] = refl
among-in_order v (u ∷ us) = among-insert v u (in_name_order us) ∙ ap (λ b. bytes_eq v u || b) (among-in_order v us)

-- ---- order
above-insert : (v k : Name) (ks : List Name) → Above v ks → slice_cmp nat_cmp v k ≡ Less → Above v (insert_key name_cmp ks k)
above-insert v k [] a l = (l, tt)
above-insert v k (x ∷ xs) a l =
    (elim (slice_cmp nat_cmp k x) as (λ r. Above v (insert_key name_cmp xs k) → Above v (match_ordering r (k ∷ x ∷ xs) (x ∷ xs) (x ∷ insert_key name_cmp xs k))) [
      | Less ↦ λ h. (l, a)
      | Equal ↦ λ h. a
      | Greater ↦ λ h. (a.0, h)
    ]) (above-insert v k xs a.1 l)

pub above_above : (v u : Name) (us : List Name) → slice_cmp nat_cmp v u ≡ Less → Above u us → Above v us
above_above v u [] l a = tt
above_above v u (x ∷ xs) l a = (nat_list_cmp_total.trans v u x l a.0, above_above v u xs l a.1)

pub reversed : (v u : Name) → slice_cmp nat_cmp v u ≡ Greater → slice_cmp nat_cmp u v ≡ Less
reversed v u e = nat_list_cmp_total.antisymm u v ∙ ap ordering_reverse e

strict-insert : (k : Name) (ks : List Name) → Strict ks → Strict (insert_key name_cmp ks k)
unfolding IsStrictlySortedBy
strict-insert k [] s = (tt, tt)
strict-insert k (x ∷ xs) s = by (slice_cmp nat_cmp k x) refl (strict-insert k xs s.1)
  where
    by : (r : Ordering) → slice_cmp nat_cmp k x ≡ r → Strict (insert_key name_cmp xs k) → Strict (match_ordering r (k ∷ x ∷ xs) (x ∷ xs) (x ∷ insert_key name_cmp xs k))
    by Less e h = ((e, above_above k x xs e s.0), s)
    by Equal e h = s
    by Greater e h = (above-insert x k xs s.0 (reversed k x e), h)

pub strict-in_order : (vs : List Name) → Strict (in_name_order vs)
unfolding IsStrictlySortedBy
strict-in_order [] = tt
strict-in_order (v ∷ vs) = strict-insert v (in_name_order vs) (strict-in_order vs)

-- ---- names in strict order with the same members are the same list
pub absent : (v : Name) (us : List Name) → Above v us → among v us ≡ false
absent v [] a = refl
absent v (u ∷ us) a = ap (λ b. b || among v us) (texts_ties v u ∙ ap is_eq a.0) ∙ absent v us a.1

pub first : (v : Name) (vs : List Name) → among v (v ∷ vs) ≡ true
first v vs = ap (λ b. b || among v vs) (same_name-refl v)

same_tails : (x : Name) (xs ys : List Name) → Above x xs → Above x ys → ((v : Name) → among v (x ∷ xs) ≡ among v (x ∷ ys)) → (v : Name) → among v xs ≡ among v ys
same_tails x xs ys a b h v = by (bytes_eq v x) refl (h v)
  where
    by : (r : Bool) → bytes_eq v x ≡ r → (r || among v xs) ≡ (r || among v ys) → among v xs ≡ among v ys
    by true e k = let same = (bytes_eq-Decides v x).0 e in
        ap (λ n. among n xs) same ∙ absent x xs a ∙ sym (absent x ys b) ∙ ap (λ n. among n ys) (sym same)
    by false e k = k

pub strict_same : (xs ys : List Name) → Strict xs → Strict ys → ((v : Name) → among v xs ≡ among v ys) → xs ≡ ys
unfolding IsStrictlySortedBy
strict_same [] [] s t h = refl
strict_same [] (y ∷ ys) s t h = absurd (true≢false (sym (first y ys) ∙ sym (h y)))
strict_same (x ∷ xs) [] s t h = absurd (true≢false (sym (first x xs) ∙ h x))
strict_same (x ∷ xs) (y ∷ ys) s t h = by (slice_cmp nat_cmp x y) refl (strict_same xs ys s.1 t.1)
  where
    by : (r : Ordering) → slice_cmp nat_cmp x y ≡ r → (((v : Name) → among v xs ≡ among v ys) → xs ≡ ys) → x ∷ xs ≡ y ∷ ys
    by Less e rec = absurd (true≢false (sym (first x xs) ∙ h x ∙ absent x (y ∷ ys) (e, above_above x y ys e t.0)))
    by Greater e rec = absurd (true≢false (sym (first y ys) ∙ sym (h y) ∙ absent y (x ∷ xs) (reversed x y e, above_above y x xs (reversed x y e) s.0)))
    by Equal e rec =
        let same = exact_bytes x y e in
        let below = subst (λ n. Above n ys) (sym same) t.0 in
        λ i. same i ∷ rec (same_tails x xs ys s.0 below (λ v. h v ∙ ap (λ n. among v (n ∷ ys)) (sym same))) i
