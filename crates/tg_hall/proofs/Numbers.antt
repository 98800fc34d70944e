-- Numbered records are apart.
use Rattle.std.proofs.Common.{◌≡◌, ◌≢◌, ℕ, ◌+◌, false, List, [], ◌∷◌, ◌-◌, ◌<◌, ◌≤◌, ◌⊎◌, ◌++◌, ◌==◌, cond, take, drop, Some, refl, sym, ap, ◌∙◌, arith, inl, inr}
use Rattle.std.specs.Prelude.{slice_get}
use Rattle.std.proofs.lemmas.Bool.{cases_lt, eq-eqb}
use Rattle.std.proofs.lemmas.Bool.Decides.{nat_tests}
use Rattle.std.proofs.lemmas.List.{take-append-drop, take-take}
use Rattle.std.proofs.lemmas.List.Sums.{sum_by-append, count_by_more_yes}
use Rattle.std.proofs.lemmas.Option.{slice_get_within, get_or_from_slice_get}
use Rattle.tg_hall.specs.declared.answers.Answered.{Answered}
use Rattle.tg_hall.specs.declared.records.Record.{Record}
use Rattle.tg_hall.specs.Histories.{count_of, IsNumbered, AreApart}

count-append : (seat : ℕ) (xs ys : List Record) → count_of seat (xs ++ ys) ≡ count_of seat xs + count_of seat ys
count-append seat xs ys = sum_by-append (λ (r : Record). cond (r.seat == seat) 1 0) xs ys

-- a record of another seat is not counted
pub count-other : (seat : ℕ) (history : List Record) (r : Record) → r.seat ≢ seat → count_of seat (history ++ r ∷ []) ≡ count_of seat history
count-other seat history r other =
    let test : (r.seat == seat) ≡ false = grind (arith, nat_tests) in
    let one : cond (r.seat == seat) 1 0 ≡ 0 = ap (λ b. let n : ℕ = cond b 1 0 in n) test in
    let both = count-append seat history (r ∷ []) in
    omega (arith, both, one)

-- one of the seat is
pub count-own : (seat : ℕ) (history : List Record) (number : ℕ) (steps : List Answered) → count_of seat (history ++ (record { seat = seat; number = number; steps = steps }) ∷ []) ≡ count_of seat history + 1
count-own seat history number steps =
    let one : cond (seat == seat) 1 0 ≡ 1 = ap (λ b. let n : ℕ = cond b 1 0 in n) (eq-eqb seat seat refl) in
    let both = count-append seat history ((record { seat = seat; number = number; steps = steps }) ∷ []) in
    omega (arith, both, one)

-- a longer part of a list has at least as many
count-take : (seat : ℕ) (history : List Record) (i d : ℕ) → count_of seat (take i history) ≤ count_of seat (take (i + d) history)
count-take seat history i d =
    let e : take i (take (i + d) history) ≡ take i history = take-take i (i + d) history (omega arith) in
    let n = ap (count_of seat) (sym (take-append-drop i (take (i + d) history))) ∙ count-append seat (take i (take (i + d) history)) (drop i (take (i + d) history)) in
    let m = ap (count_of seat) e in
    omega (arith, n, m)

earlier : (history : List Record) (i j : ℕ) (r s : Record) → IsNumbered history → slice_get history i ≡ Some r → slice_get history j ≡ Some s → r.seat ≡ s.seat → r.number ≡ s.number → i < j → ⊥
earlier history i j r s h a b e f lt =
    let more = count_by_more_yes (λ (x : Record). x.seat == r.seat) history i r (slice_get_within history i r a)
    (ap (λ (x : Record). x.seat == r.seat) (get_or_from_slice_get history i r r a) ∙ eq-eqb r.seat r.seat refl) in
    let le = count-take r.seat history (i + 1) (j - (i + 1)) in
    let place : i + 1 + (j - (i + 1)) ≡ j = omega arith in
    let same = ap (λ n. count_of r.seat (take n history)) place in
    let first = h i r a in
    let second = h j s b ∙ ap (λ n. count_of n (take j history)) (sym e) in
    omega (arith, more, le, same, first, second, f)

pub apart : (history : List Record) → IsNumbered history → AreApart history
apart history h i j r s a b e f = by (cases_lt i j) (cases_lt j i)
  where
    by : (i < j) ⊎ (j ≤ i) → (j < i) ⊎ (i ≤ j) → i ≡ j
    by (inl lt) c = absurd (earlier history i j r s h a b e f lt)
    by (inr le) (inl lt) = absurd (earlier history j i s r h b a (sym e) (sym f) lt)
    by (inr le) (inr ge) = omega arith
