-- Some name is not among fewer than 2^70 names.
use Rattle.std.proofs.Common.{◌≡◌, ℕ, zero, suc, ◌+◌, ◌-◌, ◌*◌, ◌/◌, ◌%◌, ◌^◌, ◌<◌, ◌≤◌, Bool, true, false, ◌||◌, ◌⊎◌, inl, inr, List, [], ◌∷◌, length, map, refl, sym, ap, ◌∙◌, subst, Some, None, if◌then◌else◌, arith, eq-or-lt_of_le, le_of_suc-le-suc, pow-suc}
use Rattle.std.proofs.lemmas.Bool.{or_cases, or_left, or_right, both_ways, cases_Bool, false_from_ne_true, eq-eqb, eqb-true}
use Rattle.std.proofs.lemmas.List.{length-map}
use Rattle.std.specs.Prelude.{nat_eq}
use Rattle.std.specs.List.{list_any}
use Rattle.tg_names.specs.Names.{IsName, first_bad, Name, same_name}
use Rattle.tg_rows.proofs.Rows.{same_bytes}
use Rattle.tg_names.proofs.NameLaws.{letter_fits}
use Rattle.tg_islands.proofs.Counts.{has, without, without_lt, without_keeps}

abbrev among : ℕ → List ℕ → Bool
among k ns = has nat_eq eqb-true k ns

-- a list with all the numbers below k has at least k elements
all_among : (k : ℕ) (ns : List ℕ) → ((j : ℕ) → j < k → among j ns ≡ true) → k ≤ length ns
all_among zero ns all = omega arith
all_among (suc k) ns all =
    let other : (j : ℕ) → j < k → j ≡ k → ⊥ = λ j l e. omega arith in
    let ih = all_among k (without nat_eq eqb-true k ns) (λ j l. without_keeps nat_eq eqb-true k j ns (other j l) (all j (omega arith))) in
    omega (arith, ih, without_lt nat_eq eqb-true k ns (all k (omega arith)))

first_unused : (ns : List ℕ) (m : ℕ) → ((k : ℕ) × (k < m) × (among k ns ≡ false)) ⊎ ((j : ℕ) → j < m → among j ns ≡ true)
first_unused ns zero = inr (λ j l. absurd (omega arith))
first_unused ns (suc m) = go (first_unused ns m) (cases_Bool (among m ns))
  where
    go : ((k : ℕ) × (k < m) × (among k ns ≡ false)) ⊎ ((j : ℕ) → j < m → among j ns ≡ true) → (among m ns ≡ true) ⊎ (among m ns ≡ false) → ((k : ℕ) × (k < suc m) × (among k ns ≡ false)) ⊎ ((j : ℕ) → j < suc m → among j ns ≡ true)
    go (inl f) b = inl (f.0, omega (arith, f.1), f.2)
    go (inr all) (inr no') = inl (m, omega arith, no')
    go (inr all) (inl used) = inr (λ j l. elim (eq-or-lt_of_le (le_of_suc-le-suc l)) [ inl e ↦ subst (λ i. among i ns ≡ true) (sym e) used | inr below ↦ all j below ])

unused_number : (ns : List ℕ) → (k : ℕ) × (k ≤ length ns) × (among k ns ≡ false)
unused_number ns = go (first_unused ns (suc (length ns)))
  where
    go : ((k : ℕ) × (k < suc (length ns)) × (among k ns ≡ false)) ⊎ ((j : ℕ) → j < suc (length ns) → among j ns ≡ true) → (k : ℕ) × (k ≤ length ns) × (among k ns ≡ false)
    go (inl f) = (f.0, omega (arith, f.1), f.2)
    go (inr all) = absurd (omega (arith, all_among (suc (length ns)) ns all))

value_among : (value : Name → ℕ) (n : Name) (vs : List Name) → list_any (same_name n) vs ≡ true → among (value n) (map value vs) ≡ true
value_among value n [] h = h
value_among value n (v ∷ vs) h = go (or_cases (same_name n v) _ h) (value_among value n vs)
  where
    go : (same_name n v ≡ true) ⊎ (list_any (same_name n) vs ≡ true) → (list_any (same_name n) vs ≡ true → among (value n) (map value vs) ≡ true) → (nat_eq (value n) (value v) || among (value n) (map value vs)) ≡ true
    go (inl e) ih = or_left (nat_eq (value n) (value v)) _ (eq-eqb (value n) (value v) (ap value (same_bytes n v e)))
    go (inr e) ih = or_right (nat_eq (value n) (value v)) _ (ih e)

-- names that tell their number: one of the first is unused
pub unused_name : (name : ℕ → Name) (value : Name → ℕ) (vs : List Name) → ((k : ℕ) → k ≤ length vs → value (name k) ≡ k) → (k : ℕ) × (k ≤ length vs) × (list_any (same_name (name k)) vs ≡ false)
unused_name name value vs tells =
    let u = unused_number (map value vs) in
    let le : u.0 ≤ length vs = subst (λ m. u.0 ≤ m) (length-map vs value) u.1 in
    (u.0, le, false_from_ne_true _ (λ e. both_ways (among u.0 (map value vs)) u.2 (subst (λ m. among m (map value vs) ≡ true) (tells u.0 le) (value_among value (name u.0) vs e))))

-- if the first m are all in use, the list has as many
pub all_used : (name : ℕ → Name) (value : Name → ℕ) (vs : List Name) (m : ℕ) → ((k : ℕ) → k < m → value (name k) ≡ k) → ((k : ℕ) → k < m → list_any (same_name (name k)) vs ≡ true) → m ≤ length vs
all_used name value vs m tells used =
    let le : m ≤ length (map value vs) = all_among m (map value vs) (λ k l. subst (λ j. among j (map value vs) ≡ true) (tells k l) (value_among value (name k) vs (used k l))) in
    subst (λ n. m ≤ n) (length-map vs value) le

-- n letters, for the number in base 26, lowest digit first
abbrev letters : ℕ → ℕ → List ℕ
letters zero k = []
letters (suc n) k = (97 + k % 26) ∷ letters n (k / 26)

abbrev number : List ℕ → ℕ
number [] = 0
number (b ∷ bs) = (b - 97) + 26 * number bs

number_letters : (n k : ℕ) → k < 26 ^ n → number (letters n k) ≡ k
number_letters zero k l = let e : k < 1 = l in omega arith
number_letters (suc n) k l = let ih : number (letters n (k / 26)) ≡ k / 26 = number_letters n (k / 26) (omega (arith, pow-suc 26 n)) in omega arith

length-letters : (n k : ℕ) → length (letters n k) ≡ n
length-letters zero k = refl
length-letters (suc n) k = ap suc (length-letters n (k / 26))

letters_fit : (n k i : ℕ) → first_bad i (letters n k) ≡ None
letters_fit zero k i = refl
letters_fit (suc n) k i =
    ap (λ b. if b then first_bad (i + 1) (letters n (k / 26)) else Some i) (letter_fits i (97 + k % 26) (omega arith) (omega arith)) ∙ letters_fit n (k / 26) (i + 1)

-- `_` and fifteen letters
abbrev pub spare : ℕ → Name
spare k = 95 ∷ letters 15 k

abbrev pub spare_number : Name → ℕ
spare_number [] = 0
spare_number (b ∷ bs) = number bs

pub spare_is_name : (k : ℕ) → IsName (spare k)
spare_is_name k = record { some = omega arith; within = omega (arith, length-letters 15 k); fit = letters_fit 15 k 1 }

pub fresh : (vs : List Name) → length vs < 2 ^ 70 → (n : Name) × IsName n × (list_any (same_name n) vs ≡ false)
fresh vs l =
    let few : 2 ^ 70 ≤ 26 ^ 15 = omega arith in
    let u = unused_name spare spare_number vs (λ k le. number_letters 15 k (omega arith)) in
    (spare u.0, spare_is_name u.0, u.2)
