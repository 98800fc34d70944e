-- The places at which records of one number stand.
use Rattle.std.proofs.lemmas.Option.{same_Some}
use Rattle.std.proofs.Common.{Bool, true, false, cond, eqb, add-zero, zero-add, ◌≡◌, ◌↔◌, ℕ, ◌+◌, ◌<◌, ◌≤◌, List, [], ◌∷◌, ◌++◌, length, get_or, refl, ◌∙◌, ap, subst, zero, suc, arith, sym}
use Rattle.std.proofs.Math.Seq.{take-nil}
use Rattle.std.proofs.lemmas.List.Sums.{sum_by-cons}
use Rattle.std.proofs.lemmas.Bool.{eq-eqb, ne_eqb, eqb-true, lt-ltb, le-ltb}
use Rattle.std.specs.List.{slice_get, Contains, count_by}
use Rattle.std.specs.Prelude.{nat_lt, take}
use Rattle.std.specs.List.Sorted.{IsStrictlyIncreasing}
use Rattle.std.specs.declared.option.Option.TheVariants.{Some}
use Rattle.tg_journal.specs.Pass.{own_places}

cond_push : (b : Bool) (i : ℕ) (xs : List ℕ) (m n : ℕ) → m ≡ n → cond b (i ∷ (xs ++ m ∷ [])) (xs ++ m ∷ []) ≡ cond b (i ∷ xs) xs ++ n ∷ []
cond_push true i xs m n e = ap (λ j. i ∷ (xs ++ j ∷ [])) e
cond_push false i xs m n e = ap (λ j. xs ++ j ∷ []) e

module _ {R : Type 0} (seat : R → ℕ) (k : ℕ) where
  pub own_places_same : (i : ℕ) (xs : List R) (x : R) → (seat x ≡ k → ⊥) → own_places seat k i (xs ++ x ∷ []) ≡ own_places seat k i xs
  own_places_same i [] x h = rw (ne_eqb (seat x) k h) refl
  own_places_same i (y ∷ ys) x h = let e = own_places_same (i + 1) ys x h in
      ap (λ zs. cond (eqb (seat y) k) (i ∷ zs) zs) e

  pub own_places_more : (i : ℕ) (xs : List R) (x : R) → seat x ≡ k → own_places seat k i (xs ++ x ∷ []) ≡ own_places seat k i xs ++ (i + length xs) ∷ []
  own_places_more i [] x h = rw (eq-eqb (seat x) k h, add-zero i) refl
  own_places_more i (y ∷ ys) x h = let e = own_places_more (i + 1) ys x h in
      ap (λ zs. cond (eqb (seat y) k) (i ∷ zs) zs) e ∙ cond_push (eqb (seat y) k) i (own_places seat k (i + 1) ys) (i + 1 + length ys) (i + suc (length ys)) (omega arith)

  pub own_places_le : (i : ℕ) (xs : List R) → length (own_places seat k i xs) ≤ length xs
  own_places_le i [] = omega arith
  own_places_le i (y ∷ ys) = elim (eqb (seat y) k) as (λ b. length (cond b (i ∷ own_places seat k (i + 1) ys) (own_places seat k (i + 1) ys)) ≤ length (y ∷ ys)) [ true ↦ omega (arith, own_places_le (i + 1) ys) | false ↦ omega (arith, own_places_le (i + 1) ys) ]

-- a list of numbers with i before it, or without
abbrev Led : Bool → ℕ → List ℕ → List ℕ
Led b i ps = cond b (i ∷ ps) ps

led_low : (b : Bool) (i : ℕ) (ps : List ℕ) → ((j : ℕ) → j < length ps → i + 1 ≤ get_or ps j 0) → (j : ℕ) → j < length (Led b i ps) → i ≤ get_or (Led b i ps) j 0
led_low true i ps low zero h = omega arith
led_low true i ps low (suc j) h = omega (arith, low j (omega arith))
led_low false i ps low j h = omega (arith, low j h)

led_rising : (b : Bool) (i : ℕ) (ps : List ℕ) → ((j : ℕ) → j < length ps → i + 1 ≤ get_or ps j 0) → IsStrictlyIncreasing ps → IsStrictlyIncreasing (Led b i ps)
led_rising true i ps low up zero h = omega (arith, low 0 (omega arith))
led_rising true i ps low up (suc j) h =
    let P : ℕ → Type 0 = λ n. get_or ps j 0 < get_or (i ∷ ps) n 0 in
    let same : suc (j + 1) ≡ suc j + 1 = omega arith in
    subst P same (up j (omega arith))
led_rising false i ps low up j h = up j h

count_by-cons : {X : Type 0} (p : X → Bool) (x : X) (xs : List X) → count_by p (x ∷ xs) ≡ cond (p x) 1 0 + count_by p xs
count_by-cons p x xs = sum_by-cons (λ y. cond (p y) 1 0) x xs

-- a number that leads a list counts where it is below n
led_counted : (b : Bool) (i n : ℕ) (ps : List ℕ) → i < n → count_by (λ p. nat_lt p n) (Led b i ps) ≡ cond b 1 0 + count_by (λ p. nat_lt p n) ps
led_counted true i n ps h =
    count_by-cons (λ p. nat_lt p n) i ps ∙ ap (λ b. cond b 1 0 + count_by (λ p. nat_lt p n) ps) (lt-ltb i n h)
led_counted false i n ps h = sym (zero-add (count_by (λ p. nat_lt p n) ps))

none_below : (n : ℕ) (ps : List ℕ) → ((j : ℕ) → j < length ps → n ≤ get_or ps j 0) → count_by (λ p. nat_lt p n) ps ≡ 0
none_below n [] h = refl
none_below n (p ∷ ps) h =
    count_by-cons (λ p. nat_lt p n) p ps ∙ ap (λ b. cond b 1 0 + count_by (λ p. nat_lt p n) ps) (le-ltb p n (h 0 (omega arith))) ∙ zero-add (count_by (λ p. nat_lt p n) ps) ∙ none_below n ps (λ j l. h (suc j) (omega arith))

module _ {R : Type 0} (seat : R → ℕ) (k : ℕ) where
  -- a record of the number stands at the place
  abbrev pub HasOwn : List R → ℕ → Type 0
  HasOwn xs place = (r : R) × (slice_get xs place ≡ Some r) × (seat r ≡ k)

  own_places_low : (i : ℕ) (xs : List R) (j : ℕ) → j < length (own_places seat k i xs) → i ≤ get_or (own_places seat k i xs) j 0
  own_places_low i [] j h = absurd (omega arith)
  own_places_low i (y ∷ ys) j h = led_low (eqb (seat y) k) i (own_places seat k (i + 1) ys) (own_places_low (i + 1) ys) j h

  pub own_places_rising : (i : ℕ) (xs : List R) → IsStrictlyIncreasing (own_places seat k i xs)
  own_places_rising i [] j h = absurd (omega arith)
  own_places_rising i (y ∷ ys) j h = led_rising (eqb (seat y) k) i (own_places seat k (i + 1) ys) (own_places_low (i + 1) ys) (own_places_rising (i + 1) ys) j h

  counted_from : (i n : ℕ) (xs : List R) → count_by (λ r. eqb (seat r) k) (take n xs) ≡ count_by (λ p. nat_lt p (i + n)) (own_places seat k i xs)
  counted_from i n [] = ap (count_by (λ r. eqb (seat r) k)) (take-nil n)
  counted_from i zero (y ∷ ys) = sym (none_below (i + 0) (own_places seat k i (y ∷ ys)) (λ j l. omega (arith, own_places_low i (y ∷ ys) j l)))
  counted_from i (suc n) (y ∷ ys) =
      let next : i + 1 + n ≡ i + suc n = omega arith in
      let rest = counted_from (i + 1) n ys ∙ ap (λ m. count_by (λ p. nat_lt p m) (own_places seat k (i + 1) ys)) next in
      count_by-cons (λ r. eqb (seat r) k) y (take n ys) ∙ ap (λ m. cond (eqb (seat y) k) 1 0 + m) rest ∙ sym (led_counted (eqb (seat y) k) i (i + suc n) (own_places seat k (i + 1) ys) (omega arith))

  -- among the first n, as many are of the number as there are places below n
  pub own_places_counted : (n : ℕ) (xs : List R) → count_by (λ r. eqb (seat r) k) (take n xs) ≡ count_by (λ p. nat_lt p n) (own_places seat k 0 xs)
  own_places_counted n xs = counted_from 0 n xs ∙ ap (λ m. count_by (λ p. nat_lt p m) (own_places seat k 0 xs)) (zero-add n)

  led_found : (i : ℕ) (y : R) (ys : List R) (ps : List ℕ) (b : Bool) → eqb (seat y) k ≡ b
      → ((j m : ℕ) → j < length ps → get_or ps j m ≡ m → (p : ℕ) × (m ≡ i + 1 + p) × HasOwn ys p)
      → (j m : ℕ) → j < length (Led b i ps) → get_or (Led b i ps) j m ≡ m → (p : ℕ) × (m ≡ i + p) × HasOwn (y ∷ ys) p
  led_found i y ys ps true t found zero m h e = (0, omega arith, (y, refl, eqb-true (seat y) k t))
  led_found i y ys ps true t found (suc j) m h e = let f = found j m (omega arith) e in (suc f.0, omega arith, f.2)
  led_found i y ys ps false t found j m h e = let f = found j m h e in (suc f.0, omega arith, f.2)

  own_places_found : (i : ℕ) (xs : List R) (j m : ℕ) → j < length (own_places seat k i xs) → get_or (own_places seat k i xs) j m ≡ m → (p : ℕ) × (m ≡ i + p) × HasOwn xs p
  own_places_found i [] j m h e = absurd (omega arith)
  own_places_found i (y ∷ ys) j m h e =
      led_found i y ys (own_places seat k (i + 1) ys) (eqb (seat y) k) refl (own_places_found (i + 1) ys) j m h e

  led_holds : (b : Bool) (i m : ℕ) (ps : List ℕ) → Contains ps m → Contains (Led b i ps) m
  led_holds true i m ps h = (suc h.0, omega (arith, h.1), h.2)
  led_holds false i m ps h = h

  own_places_holds : (i : ℕ) (xs : List R) (place : ℕ) → HasOwn xs place → Contains (own_places seat k i xs) (i + place)
  own_places_holds i [] place h = let e = h.1 in cc
  own_places_holds i (y ∷ ys) zero h =
      let own : seat y ≡ k = ap seat (same_Some y h.0 h.1) ∙ h.2 in
      rw (eq-eqb (seat y) k own) (0, omega arith, omega arith)
  own_places_holds i (y ∷ ys) (suc place) h =
      let ps = own_places seat k (i + 1) ys in
      let there : Contains ps (i + suc place) = subst (Contains ps) (omega arith) (own_places_holds (i + 1) ys place (h.0, h.1, h.2)) in
      led_holds (eqb (seat y) k) i (i + suc place) ps there

  pub own_places_own : (xs : List R) (place : ℕ) → Contains (own_places seat k 0 xs) place ↔ HasOwn xs place
  own_places_own xs place =
      ((λ h. let f = own_places_found 0 xs h.0 place h.1 h.2 in subst (HasOwn xs) (omega arith) f.2), (λ h. subst (Contains (own_places seat k 0 xs)) (zero-add place) (own_places_holds 0 xs place h)))
