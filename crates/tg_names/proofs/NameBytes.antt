-- The bytes of a number, the first the highest.
use Rattle.std.proofs.Common.{◌≡◌, ℕ, zero, suc, ◌+◌, ◌-◌, ◌*◌, ◌/◌, ◌%◌, ◌<◌, ◌≤◌, ◌^◌, List, [], ◌∷◌, ◌++◌, length, replicate, take, get_or, Fits, w8, refl, sym, ap, subst, ◌∙◌, arith}
use Rattle.std.proofs.Math.Nat.{pow-zero, pow-succ', pow-suc, div-div-eq-div-mul, mul_assoc, lt-div-mul-add, one-le-pow, pow-le-pow_right, mod-eq_of_lt}
use Rattle.std.proofs.lemmas.Nat.{pow-add}
use Rattle.std.proofs.Math.Facts.{Fits-lt-pow}
use Rattle.std.specs.Int.{byte_at, bytes_high_first, to_be_bytes, w128}
use Rattle.std.specs.Slice.Scan.{big_endian}
use Rattle.tg_names.specs.Names.{padded_to_16}
use Rattle.tg_names.specs.NameFields.{length-padded}
use Rattle.tg_names.proofs.NameNumbers.{AreBytes}

-- what stands in front of bytes is left where those are divided away
front : (n : ℕ) (bytes : List ℕ) → AreBytes bytes → big_endian n bytes / 256 ^ length bytes ≡ n
front n [] h = ap (λ m. n / m) (pow-zero 256) ∙ omega arith
front n (b ∷ bytes) h =
    let byte : b < 256 = h.0 in
    ap (λ m. big_endian (n * 256 + b) bytes / m) (pow-suc 256 (length bytes))
    ∙ sym (div-div-eq-div-mul (big_endian (n * 256 + b) bytes) (256 ^ length bytes) 256)
    ∙ ap (λ m. m / 256) (front (n * 256 + b) bytes h.1)
    ∙ omega arith

first_byte : (n b : ℕ) (bytes : List ℕ) → b < 256 → AreBytes bytes → byte_at (length bytes) (big_endian (n * 256 + b) bytes) ≡ b
first_byte n b [] small h = omega arith
first_byte n b (c ∷ bytes) small h = ap (λ m. m % 256) (front (n * 256 + b) (c ∷ bytes) h) ∙ omega arith

-- the bytes of the number that bytes spell are those bytes
pub bytes_of_number : (n : ℕ) (bytes : List ℕ) → AreBytes bytes → bytes_high_first (length bytes) (big_endian n bytes) ≡ bytes
bytes_of_number n [] h = refl
bytes_of_number n (b ∷ bytes) h =
    ap (λ c. c ∷ bytes_high_first (length bytes) (big_endian (n * 256 + b) bytes)) (first_byte n b bytes h.0 h.1)
    ∙ ap (λ bs. b ∷ bs) (bytes_of_number (n * 256 + b) bytes h.1)

-- bytes spell less than what one more byte is worth
pub number_fits : (bytes : List ℕ) → AreBytes bytes → big_endian 0 bytes < 256 ^ length bytes
number_fits bytes h =
    let none : 0 * 256 ^ length bytes + 256 ^ length bytes ≡ 256 ^ length bytes = omega arith in
    subst (λ m. big_endian 0 bytes < m) (ap (λ q. q * 256 ^ length bytes + 256 ^ length bytes) (front 0 bytes h) ∙ none) (lt-div-mul-add (one-le-pow (length bytes) 256 (omega arith)))

-- zeros behind bytes
pub zeros_behind : (n : ℕ) (bytes : List ℕ) (k : ℕ) → big_endian n (bytes ++ replicate k 0) ≡ big_endian n bytes * 256 ^ k
zeros_behind n [] zero = sym (ap (λ m. n * m) (pow-zero 256) ∙ omega arith)
zeros_behind n [] (suc k) =
    zeros_behind (n * 256 + 0) [] k
    ∙ ap (λ m. m * 256 ^ k) (omega arith)
    ∙ mul_assoc n 256 (256 ^ k)
    ∙ ap (λ m. n * m) (sym (pow-succ' 256 k))
zeros_behind n (b ∷ bytes) k = zeros_behind (n * 256 + b) bytes k

-- one more byte
pub one_more : (n : ℕ) (bytes : List ℕ) (i : ℕ) → i < length bytes → big_endian n (take (suc i) bytes) ≡ big_endian n (take i bytes) * 256 + get_or bytes i 0
one_more n [] i inside = absurd (omega arith)
one_more n (b ∷ bytes) zero inside = refl
one_more n (b ∷ bytes) (suc i) inside = one_more (n * 256 + b) bytes i (omega arith)

pub are_bytes : (bytes : List ℕ) (i : ℕ) → ((k : ℕ) → Fits w8 (get_or bytes k 0)) → AreBytes (take i bytes)
are_bytes bytes zero h = tt
are_bytes [] (suc i) h = tt
are_bytes (b ∷ bytes) (suc i) h =
    let byte : b < 256 = Fits-lt-pow (h 0) in
    (byte, are_bytes bytes i (λ k. h (suc k)))

pub number_fits_16 : (bytes : List ℕ) → AreBytes bytes → length bytes ≤ 16 → big_endian 0 bytes < 2 ^ 128
number_fits_16 bytes h within =
    let few : 256 ^ length bytes ≤ 256 ^ 16 = pow-le-pow_right (omega arith) within in
    let low : big_endian 0 bytes < 256 ^ length bytes = number_fits bytes h in
    omega (arith, few, low)

with_zeros : (bytes : List ℕ) (n : ℕ) → ((k : ℕ) → Fits w8 (get_or bytes k 0)) → AreBytes (bytes ++ replicate n 0)
with_zeros [] zero h = tt
with_zeros [] (suc n) h = (omega arith, with_zeros [] n h)
with_zeros (b ∷ bytes) n h =
    let byte : b < 256 = Fits-lt-pow (h 0) in
    (byte, with_zeros bytes n (λ k. h (suc k)))

-- the bytes of the number that bytes spell, once it is moved to the front of 16
pub padded_bytes : (bytes : List ℕ) → ((k : ℕ) → Fits w8 (get_or bytes k 0)) → length bytes ≤ 16 → to_be_bytes w128 (big_endian 0 bytes * 256 ^ (16 - length bytes)) ≡ padded_to_16 bytes
padded_bytes bytes h within =
    ap (to_be_bytes w128) (sym (zeros_behind 0 bytes (16 - length bytes)))
    ∙ subst (λ k. bytes_high_first k (big_endian 0 (padded_to_16 bytes)) ≡ padded_to_16 bytes) (length-padded bytes within)
    (bytes_of_number 0 (padded_to_16 bytes) (with_zeros bytes (16 - length bytes) h))

eight_bits : (k : ℕ) → 2 ^ (8 * k) ≡ 256 ^ k
eight_bits zero = sym (pow-zero 256)
eight_bits (suc k) =
    ap (λ n. 2 ^ n) (omega arith)
    ∙ pow-add 2 (8 * k) 8
    ∙ ap (λ n. n * 256) (eight_bits k)
    ∙ sym (pow-suc 256 k)

-- a shift moves them there
pub moved_to_front : (bytes : List ℕ) → ((k : ℕ) → Fits w8 (get_or bytes k 0)) → length bytes ≤ 16 → big_endian 0 bytes * 2 ^ (8 * (16 - length bytes)) % 2 ^ 128 ≡ big_endian 0 bytes * 256 ^ (16 - length bytes)
moved_to_front bytes h within =
    let room = 16 - length bytes in
    let size : length (padded_to_16 bytes) ≤ 16 = rw (length-padded bytes within) (omega arith) in
    let fits = number_fits_16 (padded_to_16 bytes) (with_zeros bytes room h) size in
    ap (λ m. big_endian 0 bytes * m % 2 ^ 128) (eight_bits room)
    ∙ mod-eq_of_lt (subst (λ m. m < 2 ^ 128) (zeros_behind 0 bytes room) fits)
