-- A number is one to four digits, the first not 0, and its value is the one that they write in decimal.
use Rattle.std.proofs.Common.{◌≡◌, ◌≢◌, refl, sym, ◌∙◌, ap, subst, inl, inr, ℕ, ◌+◌, ◌-◌, ◌*◌, ◌/◌, ◌%◌, ◌<◌, ◌≤◌, true, false, cond, eqb, ltb, [], ◌∷◌, ◌++◌, length, Option, None, Some, arith}
use Rattle.std.specs.Prelude.{◌||◌, IsSome, decimal}
use Rattle.std.specs.List.{AllByRecursion}
use Rattle.std.proofs.lemmas.Bool.{or_parts, eqb-false, ltb-false, le-ltb, ne_eqb, cases_lt}
use Rattle.std.proofs.lemmas.Bool.Decides.{nat_tests}
use Rattle.std.proofs.lemmas.Fmt.{decimal_digit, decimal_step, decimal_injective}
use Rattle.std.proofs.lemmas.List.{append_assoc, append-nil}
use Rattle.tg_names.specs.Laws.{IsDigit}
use Rattle.tg_words.specs.Words.{Word, number_of, with_digits, is_digit}
use Rattle.tg_text.specs.WordLaws.{IsSpelledAsNumber, NumberWordsExactly, NumbersAreDecimal}
use Rattle.tg_text.proofs.ScriptNumbers.{if_some, if_none, same_number, number_is_some}

digit_is : (b : ℕ) → is_digit b ≡ true → IsDigit b
digit_is b e = (grind (arith, nat_tests), grind (arith, nat_tests))

digit_from : (b : ℕ) → IsDigit b → is_digit b ≡ true
digit_from b (low, high) = grind (arith, nat_tests)

-- ---- digits behind a number

one_more : (m b : ℕ) → 0 < m → m < 1000 → IsDigit b → decimal (10 * m + (b - 48)) ≡ decimal m ++ b ∷ []
one_more m b some few (low, high) =
    let n = 10 * m + (b - 48) in
    let front : n / 10 ≡ m = omega arith in
    let last : 48 + n % 10 ≡ b = omega arith in
    decimal_step n (omega arith) (omega arith) ∙ (λ i. decimal (front i) ++ last i ∷ [])

-- what digits behind a number make of it
abbrev IsMore : ℕ → Word → ℕ → Type 0
IsMore m word n = AllByRecursion IsDigit word × (decimal n ≡ decimal m ++ word) × (n < 10000)

no_more : (m n : ℕ) → m < 10000 → with_digits m [] ≡ Some n → IsMore m [] n
no_more m n h e = (tt, ap decimal (sym (same_number m n e)) ∙ sym (append-nil (decimal m)), subst (λ k. k < 10000) (same_number m n e) h)

more : (m b : ℕ) (word : Word) (n : ℕ) → 0 < m → m < 1000 → with_digits m (b ∷ word) ≡ Some n → (IsDigit b → with_digits (10 * m + (b - 48)) word ≡ Some n → IsMore (10 * m + (b - 48)) word n) → IsMore m (b ∷ word) n
more m b word n some few e further =
    let step = if_some (is_digit b) (with_digits (10 * m + (b - 48)) word) n e in
    let digit = digit_is b step.0 in
    let rest = further digit step.1 in (
      (digit, rest.0),
      rest.1 ∙ (ap (λ ds. ds ++ word) (one_more m b some few digit) ∙ append_assoc (decimal m) (b ∷ []) word),
      rest.2,
    )

none_more : (m : ℕ) (word : Word) (n : ℕ) → m < 10000 → length word ≤ 0 → with_digits m word ≡ Some n → IsMore m word n
none_more m [] n few l e = no_more m n few e
none_more m (b ∷ word) n few l e = absurd (omega arith)

one_at_most : (m : ℕ) (word : Word) (n : ℕ) → 0 < m → m < 1000 → length word ≤ 1 → with_digits m word ≡ Some n → IsMore m word n
one_at_most m [] n some few l e = no_more m n (omega arith) e
one_at_most m (b ∷ word) n some few l e = more m b word n some few e (λ digit f. none_more (10 * m + (b - 48)) word n (omega (arith, digit.1)) (omega arith) f)

two_at_most : (m : ℕ) (word : Word) (n : ℕ) → 0 < m → m < 100 → length word ≤ 2 → with_digits m word ≡ Some n → IsMore m word n
two_at_most m [] n some few l e = no_more m n (omega arith) e
two_at_most m (b ∷ word) n some few l e = more m b word n some (omega arith) e (λ digit f. one_at_most (10 * m + (b - 48)) word n (omega arith) (omega (arith, digit.1)) (omega arith) f)

three_at_most : (m : ℕ) (word : Word) (n : ℕ) → 0 < m → m < 10 → length word ≤ 3 → with_digits m word ≡ Some n → IsMore m word n
three_at_most m [] n some few l e = no_more m n (omega arith) e
three_at_most m (b ∷ word) n some few l e = more m b word n some (omega arith) e (λ digit f. two_at_most (10 * m + (b - 48)) word n (omega arith) (omega (arith, digit.1)) (omega arith) f)

-- ---- numbers

first_not : (b : ℕ) (word rest : Word) → b ≢ 48 → b ∷ word ≢ 48 ∷ rest
first_not b word rest h e = h cc

number_back : (word : Word) (n : ℕ) → number_of word ≡ Some n → IsSpelledAsNumber word × (word ≡ decimal n) × (n < 10000)
number_back [] n e = absurd cc
number_back (b ∷ word) n e =
    let front = if_none (eqb b 48 || ltb 3 (length word)) (with_digits 0 (b ∷ word)) n e in
    let tests = or_parts (eqb b 48) (ltb 3 (length word)) front.0 in
    let other = eqb-false b 48 tests.0 in
    let few : length word ≤ 3 = ltb-false 3 (length word) tests.1 in
    let digits = if_some (is_digit b) (with_digits (10 * 0 + (b - 48)) word) n front.1 in
    let digit = digit_is b digits.0 in
    let m = 10 * 0 + (b - 48) in
    let some : 0 < m = omega (arith, digit.0, other) in
    let small : m < 10 = omega (arith, digit.1) in
    let rest = three_at_most m word n some small few digits.1 in
    let same : 48 + m ≡ b = omega (arith, digit.0) in (
      record { some = omega arith; few = omega arith; digits = (digit, rest.0); first = λ more. first_not b word more other },
      sym (rest.1 ∙ (ap (λ ds. ds ++ word) (decimal_digit m small) ∙ ap (λ d. d ∷ word) same)),
      rest.2,
    )

digits_number : (m : ℕ) (word : Word) → AllByRecursion IsDigit word → (n : ℕ) × (with_digits m word ≡ Some n)
digits_number m [] h = (m, refl)
digits_number m (b ∷ word) h =
    let rest = digits_number (10 * m + (b - 48)) word h.1 in
    (rest.0, ap (λ t. cond t (with_digits (10 * m + (b - 48)) word) None) (digit_from b h.0) ∙ rest.1)

spelled_number : (word : Word) → IsSpelledAsNumber word → (n : ℕ) × (number_of word ≡ Some n)
spelled_number [] h = absurd (let some = h.some in omega arith)
spelled_number (b ∷ word) h =
    let number = digits_number 0 (b ∷ word) h.digits in
    let other : eqb b 48 ≡ false = ne_eqb b 48 (λ e. h.first word (ap (λ c. c ∷ word) e)) in
    let few : ltb 3 (length word) ≡ false = le-ltb 3 (length word) (let all = h.few in omega arith) in
    (number.0, (λ i. cond (other i || few i) None (with_digits 0 (b ∷ word))) ∙ number.1)

pub number_words_exactly : NumberWordsExactly
number_words_exactly word = (
  λ s. by (number_of word) refl s,
  λ h. let number = spelled_number word h in subst IsSome (sym number.1) refl,
)
  where
    by : (o : Option ℕ) → number_of word ≡ o → IsSome o → IsSpelledAsNumber word
    by None e s = absurd cc
    by (Some n) e s = (number_back word n e).0

-- ---- what is written in decimal

digit_of : (d : ℕ) → d < 10 → IsDigit (48 + d)
digit_of d h = (omega arith, omega arith)

above_zero : (d : ℕ) → 0 < d → 48 + d ≢ 48
above_zero d h e = absurd (omega arith)

two_digits : (n : ℕ) → 10 ≤ n → n < 100 → decimal n ≡ (48 + n / 10) ∷ (48 + n % 10) ∷ []
two_digits n low high = decimal_step n low (omega arith) ∙ ap (λ ds. ds ++ (48 + n % 10) ∷ []) (decimal_digit (n / 10) (omega arith))

three_digits : (n : ℕ) → 100 ≤ n → n < 1000 → decimal n ≡ (48 + n / 10 / 10) ∷ (48 + n / 10 % 10) ∷ (48 + n % 10) ∷ []
three_digits n low high = decimal_step n (omega arith) (omega arith) ∙ ap (λ ds. ds ++ (48 + n % 10) ∷ []) (two_digits (n / 10) (omega arith) (omega arith))

four_digits : (n : ℕ) → 1000 ≤ n → n < 10000 → decimal n ≡ (48 + n / 10 / 10 / 10) ∷ (48 + n / 10 / 10 % 10) ∷ (48 + n / 10 % 10) ∷ (48 + n % 10) ∷ []
four_digits n low high = decimal_step n (omega arith) (omega arith) ∙ ap (λ ds. ds ++ (48 + n % 10) ∷ []) (three_digits (n / 10) (omega arith) (omega arith))

-- the digits d and those behind it
spelled : (d : ℕ) (word : Word) → 0 < d → d < 10 → length word ≤ 3 → AllByRecursion IsDigit word → IsSpelledAsNumber ((48 + d) ∷ word)
spelled d word some small few digits =
    record { some = omega arith; few = omega arith; digits = (digit_of d small, digits); first = λ rest. first_not (48 + d) word rest (above_zero d some) }

spelled_decimal : (n : ℕ) → 0 < n → n < 10000 → IsSpelledAsNumber (decimal n)
spelled_decimal n some few =
    elim (cases_lt n 10) [
      | inl h ↦ subst IsSpelledAsNumber (sym (decimal_digit n h)) (spelled n [] some h (omega arith) tt)
      | inr l ↦ elim (cases_lt n 100) [
        | inl h ↦ subst IsSpelledAsNumber (sym (two_digits n l h)) (spelled (n / 10) ((48 + n % 10) ∷ []) (omega arith) (omega arith) (omega arith) (digit_of (n % 10) (omega arith), tt))
        | inr m ↦ elim (cases_lt n 1000) [
          | inl h ↦ subst IsSpelledAsNumber (sym (three_digits n m h))
              (spelled (n / 10 / 10) ((48 + n / 10 % 10) ∷ (48 + n % 10) ∷ []) (omega arith) (omega arith) (omega arith) (digit_of (n / 10 % 10) (omega arith), (digit_of (n % 10) (omega arith), tt)))
          | inr k ↦ subst IsSpelledAsNumber (sym (four_digits n k few))
              (spelled (n / 10 / 10 / 10) ((48 + n / 10 / 10 % 10) ∷ (48 + n / 10 % 10) ∷ (48 + n % 10) ∷ []) (omega arith) (omega arith) (omega arith)
              (digit_of (n / 10 / 10 % 10) (omega arith), (digit_of (n / 10 % 10) (omega arith), (digit_of (n % 10) (omega arith), tt))))
        ]
      ]
    ]

pub numbers_are_decimal : NumbersAreDecimal
numbers_are_decimal word n = (
  λ e. let back = number_back word n e in (back.1, number_is_some word n e, back.2),
  λ (written, some, few).
      let number = spelled_number (decimal n) (spelled_decimal n some few) in
      let back = number_back (decimal n) number.0 number.1 in
      let same = decimal_injective n number.0 (omega arith) (let below = back.2 in omega arith) back.1 in
      ap number_of written ∙ (number.1 ∙ ap Some (sym same)),
)
