-- Names as numbers: padded with zeros to 16 bytes, they are ordered as the numbers that the bytes spell.
use Rattle.std.proofs.Common.{◌≡◌, ℕ, zero, suc, ◌+◌, ◌-◌, ◌*◌, ◌<◌, List, [], ◌∷◌, ◌++◌, length, replicate, refl, sym, ap, ◌∙◌, arith, nat_cmp, nat_eq, bytes_eq}
use Rattle.std.specs.List.{AllByRecursion}
use Rattle.std.specs.Int.{from_be_bytes, w128}
use Rattle.std.specs.Ordering.{ordering_then, is_eq, MatchOrdering}
use Rattle.std.specs.declared.cmp.Ordering.{Ordering}
use Rattle.std.specs.declared.cmp.Ordering.TheVariants.{Less, Equal, Greater}
use Rattle.std.specs.Cmp.Lexicographic.{slice_cmp, texts_ties}
use Rattle.std.specs.Slice.Scan.{big_endian}
use Rattle.std.specs.Cmp.{ranks, nat_cmp_is}
use Rattle.std.proofs.lemmas.Bool.Decides.{nat_tests}
use Rattle.std.proofs.lemmas.Cmp.{nat_cmp_total, tied_itself}
use Rattle.tg_names.specs.Names.{IsName, padded_to_16, name_number}
use Rattle.tg_names.specs.NameFields.{length-padded}
use Rattle.tg_names.specs.Laws.{IsNameByte}
use Rattle.tg_names.proofs.NameLaws.{spelled}

below : (a b : ℕ) → a < b → nat_cmp a b ≡ Less
below a b h = sym (nat_cmp_is a b Less h)

above : (a b : ℕ) → b < a → nat_cmp a b ≡ Greater
above a b h = sym (nat_cmp_is a b Greater h)

-- ---- the numbers that bytes spell
abbrev pub AreBytes : List ℕ → Type 0
AreBytes = AllByRecursion (λ b. b < 256)

spells_less : (a b : ℕ) (us vs : List ℕ) → length us ≡ length vs → AreBytes us → a < b → big_endian a us < big_endian b vs
spells_less a b [] [] e h l = l
spells_less a b [] (v ∷ vs) e h l = absurd (omega arith)
spells_less a b (u ∷ us) [] e h l = absurd (omega arith)
spells_less a b (u ∷ us) (v ∷ vs) e h l =
    let low : u < 256 = h.0 in
    spells_less (a * 256 + u) (b * 256 + v) us vs (omega arith) h.1 (omega arith)

order_spelled : (a : ℕ) (us vs : List ℕ) → length us ≡ length vs → AreBytes us → AreBytes vs → slice_cmp nat_cmp us vs ≡ nat_cmp (big_endian a us) (big_endian a vs)
order_spelled a [] [] e h k = sym (tied_itself nat_cmp_total a)
order_spelled a [] (v ∷ vs) e h k = absurd (omega arith)
order_spelled a (u ∷ us) [] e h k = absurd (omega arith)
order_spelled a (u ∷ us) (v ∷ vs) e h k = by (order_spelled (a * 256 + u) us vs (omega arith) h.1 k.1) (nat_cmp u v) (ranks u v)
  where
    by : slice_cmp nat_cmp us vs ≡ nat_cmp (big_endian (a * 256 + u) us) (big_endian (a * 256 + u) vs) → (r : Ordering) → MatchOrdering r (u < v) (u ≡ v) (v < u) → ordering_then r (slice_cmp nat_cmp us vs) ≡ nat_cmp (big_endian (a * 256 + u) us) (big_endian (a * 256 + v) vs)
    by rest Less c =
        let l : u < v = c in
        sym (below _ _ (spells_less (a * 256 + u) (a * 256 + v) us vs (omega arith) h.1 (omega arith)))
    by rest Equal c =
        let l : u ≡ v = c in
        rest ∙ ap (λ n. nat_cmp (big_endian (a * 256 + u) us) (big_endian (a * 256 + n) vs)) l
    by rest Greater c =
        let l : v < u = c in
        sym (above _ _ (spells_less (a * 256 + v) (a * 256 + u) vs us (omega arith) k.1 (omega arith)))

-- ---- zeros at the end
abbrev ArePositive : List ℕ → Type 0
ArePositive = AllByRecursion (λ b. 0 < b)

zeros_tied : (n : ℕ) → slice_cmp nat_cmp (replicate n 0) (replicate n 0) ≡ Equal
zeros_tied zero = refl
zeros_tied (suc n) = zeros_tied n

order_padded : (xs ys : List ℕ) (p q : ℕ) → length xs + p ≡ length ys + q → ArePositive xs → ArePositive ys
    → slice_cmp nat_cmp xs ys ≡ slice_cmp nat_cmp (xs ++ replicate p 0) (ys ++ replicate q 0)
order_padded [] [] p q e h k =
    let same : p ≡ q = omega arith in
    sym (zeros_tied p) ∙ ap (λ n. slice_cmp nat_cmp (replicate p 0) (replicate n 0)) same
order_padded [] (y ∷ ys) zero q e h k = absurd (omega arith)
order_padded [] (y ∷ ys) (suc p) q e h k = sym (ap (λ r. ordering_then r (slice_cmp nat_cmp (replicate p 0) (ys ++ replicate q 0))) (below 0 y k.0))
order_padded (x ∷ xs) [] p zero e h k = absurd (omega arith)
order_padded (x ∷ xs) [] p (suc q) e h k = sym (ap (λ r. ordering_then r (slice_cmp nat_cmp (xs ++ replicate p 0) (replicate q 0))) (above x 0 h.0))
order_padded (x ∷ xs) (y ∷ ys) p q e h k = ap (ordering_then (nat_cmp x y)) (order_padded xs ys p q (omega arith) h.1 k.1)

-- ---- names
name_positive : (bs : List ℕ) → AllByRecursion IsNameByte bs → ArePositive bs
name_positive [] h = tt
name_positive (b ∷ bs) h = (byte_positive b h.0, name_positive bs h.1)
  where
    byte_positive : (b : ℕ) → IsNameByte b → 0 < b
    byte_positive b h = omega arith

name_bytes : (bs : List ℕ) (n : ℕ) → AllByRecursion IsNameByte bs → AreBytes (bs ++ replicate n 0)
name_bytes [] zero h = tt
name_bytes [] (suc n) h = (omega arith, name_bytes [] n tt)
name_bytes (b ∷ bs) n h = (byte b h.0, name_bytes bs n h.1)
  where
    byte : (b : ℕ) → IsNameByte b → b < 256
    byte b h = omega arith

-- names are ordered as their numbers
pub order_numbers : (x y : List ℕ) → IsName x → IsName y → slice_cmp nat_cmp x y ≡ nat_cmp (name_number x) (name_number y)
order_numbers x y n m =
    let a = spelled 0 x n.fit in
    let b = spelled 0 y m.fit in
    order_padded x y (16 - length x) (16 - length y) (omega (arith, n.within, m.within)) (name_positive x a) (name_positive y b)
    ∙ order_spelled 0 (padded_to_16 x) (padded_to_16 y) (length-padded x n.within ∙ sym (length-padded y m.within)) (name_bytes x (16 - length x) a) (name_bytes y (16 - length y) b)

-- what the numbers tell is the order of the names
pub order_told : (x y : List ℕ) → IsName x → IsName y → (r : Ordering) → MatchOrdering r (name_number x < name_number y) (name_number x ≡ name_number y) (name_number y < name_number x) → r ≡ slice_cmp nat_cmp x y
order_told x y n m r h = nat_cmp_is (name_number x) (name_number y) r h ∙ sym (order_numbers x y n m)

-- and equal where these are
pub equal_numbers : (x y : List ℕ) → IsName x → IsName y → bytes_eq x y ≡ nat_eq (name_number x) (name_number y)
equal_numbers x y n m = texts_ties x y ∙ ap is_eq (order_numbers x y n m) ∙ tied (name_number x) (name_number y)
  where
    by : (a b : ℕ) (r : Ordering) → MatchOrdering r (a < b) (a ≡ b) (b < a) → is_eq r ≡ nat_eq a b
    by a b Less l = let h : a < b = l in grind (arith, nat_tests)
    by a b Equal l = let h : a ≡ b = l in grind (arith, nat_tests)
    by a b Greater l = let h : b < a = l in grind (arith, nat_tests)

    tied : (a b : ℕ) → is_eq (nat_cmp a b) ≡ nat_eq a b
    tied a b = by a b (nat_cmp a b) (ranks a b)

-- what `from_be_bytes` reads
pub number_read : (bs : List ℕ) → length bs ≡ 16 → from_be_bytes w128 bs ≡ big_endian 0 bs
number_read (a ∷ b ∷ c ∷ d ∷ e ∷ f ∷ g ∷ h ∷ i ∷ j ∷ k ∷ l ∷ m ∷ n ∷ o ∷ p ∷ []) s = omega arith
number_read bs s = absurd (omega arith)
