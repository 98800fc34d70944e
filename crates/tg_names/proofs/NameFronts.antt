-- The name at the front of bytes.
use Rattle.std.proofs.Common.{◌≡◌, ℕ, zero, suc, ◌+◌, ◌-◌, ◌<◌, ◌≤◌, ◌⊎◌, inl, inr, true, false, List, [], ◌∷◌, ◌++◌, length, take, replicate, get_or, slice_set, None, Some, Bool, ◌==◌, ◌&&◌, ◌||◌, nat_le, refl, sym, ap, subst, ◌∙◌, arith, if◌then◌else◌, true≢false}
use Rattle.std.proofs.lemmas.Bool.{cases_lt}
use Rattle.std.proofs.lemmas.Bool.Decides.{nat_tests}
use Rattle.std.proofs.lemmas.List.{append_assoc, get_or-take, length-append, length-take, length-take-le}
use Rattle.std.proofs.Math.Nat.{min-le_left}
use Rattle.std.proofs.Math.Seq.{set-append_seam, take-suc, take-append_seam}
use Rattle.tg_names.specs.Names.{AllFit, IsName, fits_at, first_bad, padded_to_16}
use Rattle.tg_names.proofs.NameLaws.{step_none, all_fit-none, inner}

-- one more byte that fits
one_more_fits : (k : ℕ) (bytes : List ℕ) (i : ℕ) → i < length bytes → first_bad k (take i bytes) ≡ None → fits_at (k + i) (get_or bytes i 0) ≡ true → first_bad k (take (suc i) bytes) ≡ None
one_more_fits k [] i l h f = absurd (omega arith)
one_more_fits k (b ∷ bs) zero l h f = ap (λ c. if c then None else Some k) (ap (λ m. fits_at m b) (omega arith) ∙ f)
one_more_fits k (b ∷ bs) (suc i) l h f =
    let s = step_none (fits_at k b) k (first_bad (k + 1) (take i bs)) h in
    ap (λ c. if c then first_bad (k + 1) (take (suc i) bs) else Some k) s.0
    ∙ one_more_fits (k + 1) bs i (omega arith) s.1 (ap (λ m. fits_at m (get_or bs i 0)) (omega arith) ∙ f)

from_front : (i b : ℕ) → fits_at (0 + i) b ≡ fits_at i b
from_front i b = ap (λ m. fits_at m b) (omega arith)

pub one_more_at_front : (bytes : List ℕ) (i : ℕ) → i < length bytes → first_bad 0 (take i bytes) ≡ None → fits_at i (get_or bytes i 0) ≡ true → first_bad 0 (take (suc i) bytes) ≡ None
one_more_at_front bytes i l h f = one_more_fits 0 bytes i l h (from_front i (get_or bytes i 0) ∙ f)

-- each byte of what fits does so
fits_within : (k : ℕ) (bytes : List ℕ) (i : ℕ) → i < length bytes → first_bad k bytes ≡ None → fits_at (k + i) (get_or bytes i 0) ≡ true
fits_within k [] i l h = absurd (omega arith)
fits_within k (b ∷ bs) zero l h = ap (λ m. fits_at m b) (omega arith) ∙ (step_none (fits_at k b) k (first_bad (k + 1) bs) h).0
fits_within k (b ∷ bs) (suc i) l h =
    ap (λ m. fits_at m (get_or bs i 0)) (omega arith)
    ∙ fits_within (k + 1) bs i (omega arith) (step_none (fits_at k b) k (first_bad (k + 1) bs) h).1

-- no name goes on behind a byte that does not fit
pub ends_there : (bytes : List ℕ) (i : ℕ) → fits_at i (get_or bytes i 0) ≡ false → (k : ℕ) → IsName (take k bytes) → length (take k bytes) ≤ i
ends_there bytes i f k n = by (cases_lt i (length (take k bytes)))
  where
    by : (i < length (take k bytes)) ⊎ (length (take k bytes) ≤ i) → length (take k bytes) ≤ i
    by (inl l) =
        let few : length (take k bytes) ≤ k = subst (λ m. m ≤ k) (sym (length-take k bytes)) (min-le_left k (length bytes)) in
        absurd (true≢false (sym (fits_within 0 (take k bytes) i l n.fit) ∙ from_front i (get_or (take k bytes) i 0) ∙ ap (fits_at i) (get_or-take k bytes i 0 (omega (arith, l, few))) ∙ f))
    by (inr l) = l

-- one more byte in front of the zeros
set_behind : (xs : List ℕ) (n b : ℕ) → slice_set (xs ++ replicate (suc n) 0) (length xs) b ≡ (xs ++ b ∷ []) ++ replicate n 0
set_behind xs n b = set-append_seam xs 0 (replicate n 0) b ∙ sym (append_assoc xs (b ∷ []) (replicate n 0))

padded_on : (xs : List ℕ) (i b : ℕ) → length xs ≡ i → i < 16 → slice_set (padded_to_16 xs) i b ≡ padded_to_16 (xs ++ b ∷ [])
padded_on xs i b l h =
    let room : 16 - length xs ≡ suc (15 - i) = omega (arith, l, h) in
    let left : 15 - i ≡ 16 - length (xs ++ b ∷ []) = omega (arith, l, h, length-append xs (b ∷ [])) in
    ap (λ m. slice_set (xs ++ replicate m 0) i b) room
    ∙ ap (λ j. slice_set (xs ++ replicate (suc (15 - i)) 0) j b) (sym l)
    ∙ set_behind xs (15 - i) b
    ∙ ap (λ m. (xs ++ b ∷ []) ++ replicate m 0) left

pub one_more_padded : (bytes : List ℕ) (i : ℕ) → i < length bytes → i < 16 → slice_set (padded_to_16 (take i bytes)) i (get_or bytes i 0) ≡ padded_to_16 (take (suc i) bytes)
one_more_padded bytes i l h = padded_on (take i bytes) i (get_or bytes i 0) (length-take-le i bytes (omega (arith, l))) h ∙ ap padded_to_16 (sym (take-suc bytes i 0 l))

-- the bytes in front of the zeros
pub padded_front : (xs : List ℕ) (padded : List ℕ) (n : ℕ) → length xs ≡ n → padded ≡ padded_to_16 xs → take n padded ≡ xs
padded_front xs padded n l e = ap (take n) e ∙ ap (λ m. take m (padded_to_16 xs)) (sym l) ∙ take-append_seam xs (replicate (16 - length xs) 0)

-- ---- the first 16 bytes, looked at at once
pub few_fit : (bytes : List ℕ) (len : ℕ) → 0 < len → len ≤ length bytes → fits_at 0 (get_or bytes 0 0) ≡ true → AllFit bytes len → first_bad 0 (take len bytes) ≡ None
few_fit bytes len some within f h =
    let size : length (take len bytes) ≡ len = length-take-le len bytes (omega (arith, within)) in
    all_fit-none (take len bytes) (ap (fits_at 0) (get_or-take len bytes 0 0 some) ∙ f)
    (λ k l. ap (fits_at 1) (get_or-take len bytes k 0 (omega (arith, l, size))) ∙ h k (omega (arith, l, size)))

-- a byte that may stand nowhere behind another may not stand first
pub nor_first : (b : ℕ) → fits_at 1 b ≡ false → fits_at 0 b ≡ false
nor_first b h = by ((nat_le 97 b && nat_le b 122) || (b == 95)) (nat_le 48 b && nat_le b 57) h
  where
    by : (first behind : Bool) → (first || behind) ≡ false → (first || false) ≡ false
    by true behind h = h
    by false behind h = refl

pub ends_behind : (bytes : List ℕ) (len : ℕ) → 0 < len → len ≤ 16 → (len < 16 → fits_at 1 (get_or bytes len 0) ≡ false) → (k : ℕ) → IsName (take k bytes) → length (take k bytes) ≤ len
ends_behind bytes len some few stops k n = by (cases_lt len 16)
  where
    behind_first : (n b : ℕ) → 0 < n → fits_at n b ≡ fits_at 1 b
    behind_first zero b l = absurd (omega arith)
    behind_first (suc m) b l = inner m b

    by : (len < 16) ⊎ (16 ≤ len) → length (take k bytes) ≤ len
    by (inl l) = ends_there bytes len (behind_first len (get_or bytes len 0) some ∙ stops l) k n
    by (inr l) = omega (arith, n.within, l)

-- what stands in front of 16 bytes stands in front of all
pub same_front : (n k : ℕ) (bytes : List ℕ) → length (take k bytes) ≤ n → take k (take n bytes) ≡ take k bytes
same_front n zero bytes l = refl
same_front zero (suc k) [] l = refl
same_front (suc n) (suc k) [] l = refl
same_front zero (suc k) (b ∷ bytes) l = absurd (omega arith)
same_front (suc n) (suc k) (b ∷ bytes) l = ap (λ bs. b ∷ bs) (same_front n k bytes (omega arith))

pub same_cut : (k : ℕ) (bytes : List ℕ) → k ≤ 16 → take k (take 16 bytes) ≡ take k bytes
same_cut k bytes l =
    let few : length (take k bytes) ≤ k = subst (λ m. m ≤ k) (sym (length-take k bytes)) (min-le_left k (length bytes)) in
    same_front 16 k bytes (omega (arith, few, l))

pub longest_in_front : (bytes : List ℕ) (len : ℕ) → ((k : ℕ) → IsName (take k (take 16 bytes)) → length (take k (take 16 bytes)) ≤ len) → (k : ℕ) → IsName (take k bytes) → length (take k bytes) ≤ len
longest_in_front bytes len h k n =
    let same = same_front 16 k bytes n.within in
    subst (λ bs. length bs ≤ len) same (h k (subst IsName (sym same) n))

-- a name begins with no digit, whose bytes are not above 57
pub no_digit_first : (b : ℕ) → b ≤ 57 → fits_at 0 b ≡ false
no_digit_first b h = grind (arith, nat_tests)

-- what may stand behind another and is above the digits may stand first
pub first_of_all : (b : ℕ) → 57 < b → fits_at 1 b ≡ true → fits_at 0 b ≡ true
first_of_all b h f = grind (arith, nat_tests)
