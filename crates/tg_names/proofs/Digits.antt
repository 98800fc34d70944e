-- `_` and digits are a name.
use Rattle.std.proofs.Common.{◌≡◌, ℕ, zero, suc, ◌^◌, ◌+◌, ◌<◌, ◌≤◌, List, [], ◌∷◌, length, map, Some, None, refl, ap, ◌∙◌, arith, ◌-◌, ◌++◌, ◌/◌, ◌%◌, take, drop, set, if◌then◌else◌, sym, append_assoc}
use Rattle.std.proofs.lemmas.List.{drop-set, take_all, length-append, length-drop}
use Rattle.std.proofs.lemmas.Int.Digits.{all_below_base_digits_of}
use Rattle.std.proofs.lemmas.Fmt.{decimal_digit, decimal_step, decimal_nonempty, decimal-digits_of, length-decimal-le}
use Rattle.std.specs.Fmt.{decimal}
use Rattle.tg_names.specs.Names.{IsName, first_bad}
use Rattle.std.specs.Int.Digits.{AllBelowBase, digits_of}
use Rattle.tg_names.proofs.NameLaws.{digit_fits}

digits_fit : (k : ℕ) (ds : List ℕ) → 0 < k → AllBelowBase 10 ds → first_bad k (map (λ d. 48 + d) ds) ≡ None
digits_fit k [] p h = refl
digits_fit k (d ∷ ds) p h =
    ap (λ b. if b then first_bad (k + 1) (map (λ d. 48 + d) ds) else Some k) (digit_fits k (48 + d) p (omega arith) (omega (arith, h.0)))
    ∙ digits_fit (k + 1) ds (omega arith) h.1

decimal_fits : (n : ℕ) → n < 2 ^ 64 → first_bad 1 (decimal n) ≡ None
decimal_fits zero h = ap (first_bad 1) (decimal_digit 0 (omega arith))
decimal_fits (suc n) h =
    ap (first_bad 1) (decimal-digits_of (suc n) (omega arith) h) ∙ digits_fit 1 (digits_of 10 (suc n)) (omega arith) (all_below_base_digits_of 10 (suc n) (omega arith))

pub name-decimal : (n : ℕ) → n < 2 ^ 32 → IsName (95 ∷ decimal n)
name-decimal n h = record {
  some = omega arith;
  within = omega (arith, length-decimal-le 10 n (omega arith) (omega arith) (omega arith));
  fit = decimal_fits n (omega arith);
}

-- what is written so far leaves room in front of it
pub start-positive : (n left start : ℕ) (text : List ℕ) → n < 2 ^ 32 → left < 2 ^ 32 → length text ≡ 11 → start ≤ 11 → decimal n ≡ decimal left ++ drop start text → 1 ≤ start
start-positive n left start text h k l b e =
    omega (arith, length-decimal-le 10 n (omega arith) (omega arith) (omega arith), decimal_nonempty left (omega arith), ap length e, length-append (decimal left) (drop start text), length-drop start text)

pub start-last : (n left start : ℕ) (text : List ℕ) → n < 2 ^ 32 → left < 10 → length text ≡ 11 → start ≤ 11 → decimal n ≡ decimal left ++ drop start text → start - 1 + length (decimal n) ≡ 11
start-last n left start text h k l b e =
    omega (arith, start-positive n left start text h (omega arith) l b e, ap length (decimal_digit left k), ap length e, length-append (decimal left) (drop start text), length-drop start text)

-- one more digit in front of those that are written
pub digit-more : (n left start : ℕ) (text : List ℕ) → 10 ≤ left → left < 2 ^ 32 → 0 < start → start ≤ length text → decimal n ≡ decimal left ++ drop start text
    → decimal n ≡ decimal (left / 10) ++ drop (start - 1) (set text (start - 1) (48 + left % 10))
digit-more n left start text h l p b e =
    let next : start - 1 + 1 ≡ start = omega arith in
    e ∙ ap (λ ds. ds ++ drop start text) (decimal_step left h (omega arith)) ∙ append_assoc (decimal (left / 10)) ((48 + left % 10) ∷ []) (drop start text)
    ∙ ap (λ k. decimal (left / 10) ++ (48 + left % 10) ∷ drop k text) (sym next)
    ∙ ap (λ ds. decimal (left / 10) ++ ds) (sym (drop-set text (start - 1) (48 + left % 10) (omega arith)))

pub digit-last : (n left start : ℕ) (text : List ℕ) → left < 10 → 0 < start → start ≤ length text → decimal n ≡ decimal left ++ drop start text
    → drop (start - 1) (set text (start - 1) (48 + left)) ≡ decimal n
digit-last n left start text h p b e =
    let next : start - 1 + 1 ≡ start = omega arith in
    drop-set text (start - 1) (48 + left) (omega arith) ∙ ap (λ k. (48 + left) ∷ drop k text) next
    ∙ sym (e ∙ ap (λ ds. ds ++ drop start text) (decimal_digit left h))

pub text-decimal : (n start : ℕ) (buf : List ℕ) → length buf ≡ 11 → n < 2 ^ 32 → start + length (decimal n) ≡ 11 → drop start buf ≡ decimal n
    → take (11 - (start - 1)) (drop (start - 1) (set buf (start - 1) 95)) ≡ 95 ∷ decimal n
text-decimal n start buf l h e w =
    let short = length-decimal-le 10 n (omega arith) (omega arith) (omega arith) in
    let next : start - 1 + 1 ≡ start = omega arith in
    let whole : drop (start - 1) (set buf (start - 1) 95) ≡ 95 ∷ decimal n =
    drop-set buf (start - 1) 95 (omega arith) ∙ ap (λ k. 95 ∷ drop k buf) next ∙ ap (λ t. 95 ∷ t) w in
    ap (take (11 - (start - 1))) whole ∙ take_all (11 - (start - 1)) (95 ∷ decimal n) (omega arith)
