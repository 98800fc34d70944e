-- What is a name, and in which order names are.
use Rattle.std.proofs.Common.{◌≡◌, ℕ, zero, suc, ◌+◌, ◌<◌, ◌≤◌, ◌⊎◌, inl, inr, Bool, true, false, List, [], ◌∷◌, ◌++◌, length, get_or, Option, None, Some, refl, sym, ap, ◌∙◌, ⊎_elim, true≢false, nat_le, arith, add-one, lt-ltb, ◌==◌, ◌&&◌, ◌||◌, if◌then◌else◌, nat_cmp}
use Rattle.std.specs.List.{AllByRecursion}
use Rattle.std.specs.Bool.{Decides}
use Rattle.std.specs.Ordering.{ordering_then}
use Rattle.std.specs.declared.cmp.Ordering.TheVariants.{Less}
use Rattle.std.specs.Cmp.Lexicographic.{slice_cmp}
use Rattle.std.proofs.lemmas.Bool.Decides.{nat_tests, Decides-eqb, Decides-ltb, leb_tells, Decides-and, Decides-or}
use Rattle.std.proofs.lemmas.Cmp.{nat_cmp_total, tied_itself}
use Rattle.std.proofs.lemmas.List.Elements.{All-from_recursion, recursion_from_All}
use Rattle.std.proofs.lemmas.Option.{none-some}
use Rattle.tg_names.specs.Names.{AllFit, fits_at, first_bad}
use Rattle.tg_names.specs.Laws.{IsLetter, IsDigit, IsNameByte, NamesExactly, PrefixFirst, DifferenceDecides}

-- ---- bytes that all fit
pub inner : (k b : ℕ) → fits_at (suc k) b ≡ fits_at 1 b
inner k b = ap (λ t. (nat_le 97 b && nat_le b 122) || (b == 95) || (t && nat_le 48 b && nat_le b 57)) (lt-ltb 0 (suc k) (omega arith))

fit_on : (bytes : List ℕ) (k : ℕ) → AllFit bytes (length bytes) → first_bad (suc k) bytes ≡ None
fit_on [] k h = refl
fit_on (b ∷ bs) k h =
    ap (λ c. if c then first_bad (suc k + 1) bs else Some (suc k)) (inner k b ∙ h 0 (omega arith))
    ∙ ap (λ n. first_bad n bs) (add-one (suc k))
    ∙ fit_on bs (suc k) (λ i l. h (suc i) (omega (arith, l)))

pub all_fit-none : (bytes : List ℕ) → fits_at 0 (get_or bytes 0 0) ≡ true → AllFit bytes (length bytes) → first_bad 0 bytes ≡ None
all_fit-none [] f h = refl
all_fit-none (b ∷ bs) f h = ap (λ c. if c then first_bad 1 bs else Some 0) f ∙ fit_on bs 0 (λ i l. h (suc i) (omega (arith, l)))

le_decides : (a b : ℕ) → Decides (nat_le a b) (a ≤ b)
le_decides a b = elim (leb_tells a b) [
  | inl p ↦ (λ t. p.1, λ l. p.0)
  | inr p ↦ (λ t. absurd (true≢false (sym t ∙ p.0)), λ l. absurd (omega arith))
]

abbrev Fits : ℕ → ℕ → Type 0
Fits k b = (IsLetter b ⊎ (b ≡ 95)) ⊎ ((0 < k) × (48 ≤ b) × (b ≤ 57))

fits : (k b : ℕ) → fits_at k b ≡ true → Fits k b
fits k b h =
    let d = Decides-or _ _ (Decides-or _ _ (Decides-and _ _ (le_decides 97 b) (le_decides b 122)) (Decides-eqb b 95)) (Decides-and _ _ (Decides-and _ _ (Decides-ltb 0 k) (le_decides 48 b)) (le_decides b 57)) in
    ⊎_elim (λ u. inl u) (λ u. inr (u.0.0, u.0.1, u.1)) (d.0 h)

byte_from_fits : (k b : ℕ) → Fits k b → IsNameByte b × (k ≡ 0 → ¬ IsDigit b)
byte_from_fits k b (inl (inl letter)) = (inl letter, λ e d. omega arith)
byte_from_fits k b (inl (inr line)) = (inr (inr line), λ e d. omega arith)
byte_from_fits k b (inr digit) = (inr (inl (digit.1, digit.2)), λ e d. omega arith)

pub letter_fits : (k b : ℕ) → 97 ≤ b → b ≤ 122 → fits_at k b ≡ true
letter_fits k b l h = grind (arith, nat_tests)

line_fits : (k b : ℕ) → b ≡ 95 → fits_at k b ≡ true
line_fits k b e = grind (arith, nat_tests)

pub digit_fits : (k b : ℕ) → 0 < k → 48 ≤ b → b ≤ 57 → fits_at k b ≡ true
digit_fits k b p l h = grind (arith, nat_tests)

positive : (k : ℕ) → (k ≡ 0 → ⊥) → 0 < k
positive zero f = absurd (f refl)
positive (suc k) f = omega arith

fits_from_byte : (k b : ℕ) → IsNameByte b → (k ≡ 0 → ¬ IsDigit b) → fits_at k b ≡ true
fits_from_byte k b (inl letter) f = letter_fits k b letter.0 letter.1
fits_from_byte k b (inr (inl digit)) f = digit_fits k b (positive k (λ e. f e digit)) digit.0 digit.1
fits_from_byte k b (inr (inr line)) f = line_fits k b line

pub step_none : (b : Bool) (k : ℕ) (o : Option ℕ) → (if b then o else Some k) ≡ None → (b ≡ true) × (o ≡ None)
step_none true k o e = (refl, e)
step_none false k o e = absurd (none-some k (sym e))

pub spelled : (k : ℕ) (bs : List ℕ) → first_bad k bs ≡ None → AllByRecursion IsNameByte bs
spelled k [] h = tt
spelled k (b ∷ bs) h =
    let s = step_none (fits_at k b) k (first_bad (k + 1) bs) h in
    ((byte_from_fits k b (fits k b s.0)).0, spelled (k + 1) bs s.1)

first_fits : (bs : List ℕ) → 0 < length bs → first_bad 0 bs ≡ None → ¬ IsDigit (get_or bs 0 0)
first_fits [] p h d = omega arith
first_fits (b ∷ bs) p h d = (byte_from_fits 0 b (fits 0 b (step_none (fits_at 0 b) 0 (first_bad 1 bs) h).0)).1 refl d

none_bad : (k : ℕ) (bs : List ℕ) → AllByRecursion IsNameByte bs → (k ≡ 0 → ¬ IsDigit (get_or bs 0 0)) → first_bad k bs ≡ None
none_bad k [] a f = refl
none_bad k (b ∷ bs) a f =
    ap (λ t. if t then first_bad (k + 1) bs else Some k) (fits_from_byte k b a.0 f)
    ∙ none_bad (k + 1) bs a.1 (λ e. absurd (omega arith))

pub names_exactly : NamesExactly
names_exactly bytes = (
  (λ n. record { some = n.some; within = n.within; spelled = All-from_recursion IsNameByte bytes (spelled 0 bytes n.fit); first = first_fits bytes n.some n.fit }),
  λ s. record { some = s.some; within = s.within; fit = none_bad 0 bytes (recursion_from_All IsNameByte bytes s.spelled) (λ e. s.first) },
)

pub prefix_first : PrefixFirst
prefix_first [] b rest = refl
prefix_first (a ∷ x) b rest = ap (λ o. ordering_then o (slice_cmp nat_cmp x (x ++ b ∷ rest))) (tied_itself nat_cmp_total a) ∙ prefix_first x b rest

less : (a b : ℕ) → a < b → nat_cmp a b ≡ Less
less a b h = grind (arith, nat_tests)

pub difference_decides : DifferenceDecides
difference_decides [] a b x y h = ap (λ o. ordering_then o (slice_cmp nat_cmp x y)) (less a b h)
difference_decides (c ∷ front) a b x y h =
    ap (λ o. ordering_then o (slice_cmp nat_cmp (front ++ a ∷ x) (front ++ b ∷ y))) (tied_itself nat_cmp_total c) ∙ difference_decides front a b x y h
