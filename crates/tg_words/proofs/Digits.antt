-- A number in decimal, two digits at a time.
use Rattle.std.proofs.Common.{◌≡◌, ◌+◌, ◌<◌, ◌≤◌, ◌++◌, ◌∷◌, [], ◌/◌, ◌%◌, ◌^◌, ℕ, List, length, ap, ◌∙◌, arith, append_assoc, length-append}
use Rattle.std.specs.Fmt.{decimal}
use Rattle.std.proofs.lemmas.Fmt.{decimal_step, decimal_digit}

-- the digits of a number below 100, with a zero in front where there is one alone
abbrev pub two_digits : ℕ → List ℕ
two_digits n = (48 + n / 10) ∷ (48 + n % 10) ∷ []

pub digit-is : (n : ℕ) → n < 10 → decimal n ≡ (48 + n) ∷ []
digit-is n h = decimal_digit n h

pub two-are : (n : ℕ) → 10 ≤ n → n < 100 → decimal n ≡ two_digits n
two-are n l h = decimal_step n l (omega arith) ∙ (λ i. decimal_digit (n / 10) (omega arith) i ++ (48 + n % 10) ∷ [])

pub last_two-are : (n : ℕ) → 100 ≤ n → n < 2 ^ 64 → decimal n ≡ decimal (n / 100) ++ two_digits (n % 100)
last_two-are n l h =
    let front : n / 10 / 10 ≡ n / 100 = omega arith in
    let tens : 48 + n / 10 % 10 ≡ 48 + n % 100 / 10 = omega arith in
    let ones : 48 + n % 10 ≡ 48 + n % 100 % 10 = omega arith in
    decimal_step n (omega arith) h
    ∙ (λ i. decimal_step (n / 10) (omega arith) (omega arith) i ++ (48 + n % 10) ∷ [])
    ∙ append_assoc (decimal (n / 10 / 10)) ((48 + n / 10 % 10) ∷ []) ((48 + n % 10) ∷ [])
    ∙ (λ i. decimal (front i) ++ tens i ∷ ones i ∷ [])

pub last_four-are : (n : ℕ) → 10000 ≤ n → n < 2 ^ 64 → decimal n ≡ decimal (n / 10000) ++ (two_digits (n / 100 % 100) ++ two_digits (n % 100))
last_four-are n l h =
    let front : n / 100 / 100 ≡ n / 10000 = omega arith in
    last_two-are n (omega arith) h
    ∙ (λ i. last_two-are (n / 100) (omega arith) (omega arith) i ++ two_digits (n % 100))
    ∙ append_assoc (decimal (n / 100 / 100)) (two_digits (n / 100 % 100)) (two_digits (n % 100))
    ∙ (λ i. decimal (front i) ++ (two_digits (n / 100 % 100) ++ two_digits (n % 100)))

pub length-last_two : (n : ℕ) → 100 ≤ n → n < 2 ^ 64 → length (decimal n) ≡ length (decimal (n / 100)) + 2
length-last_two n l h = ap length (last_two-are n l h) ∙ length-append (decimal (n / 100)) (two_digits (n % 100))

pub length-last_four : (n : ℕ) → 10000 ≤ n → n < 2 ^ 64 → length (decimal n) ≡ length (decimal (n / 10000)) + 4
length-last_four n l h = ap length (last_four-are n l h) ∙ length-append (decimal (n / 10000)) (two_digits (n / 100 % 100) ++ two_digits (n % 100))
