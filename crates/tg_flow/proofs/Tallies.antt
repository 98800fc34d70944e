-- One item of a list changes: what stands where, and how many pass a test.
use Rattle.std.proofs.Common.{◌≡◌, ℕ, zero, suc, ◌+◌, ◌<◌, ◌≤◌, Bool, true, false, not, cond, ◌&&◌, ◌||◌, List, [], ◌∷◌, length, slice_get, slice_set, Some, refl, sym, ap, ◌∙◌, subst, arith}
use Rattle.std.specs.Prelude.{count_by}
use Rattle.std.specs.List.{list_any}
use Rattle.std.proofs.lemmas.Bool.{false≢true, both_ways, not-true, and_parts, and_from, false_from_ne_true}
use Rattle.std.proofs.lemmas.List.Sums.{sum_by-set, sum_by-cons}
use Rattle.std.proofs.lemmas.Option.{none-some, same_Some, slice_get_within, get_or_from_slice_get}
use Rattle.tg_flow.specs.Flows.{weight}

pub slice_get-set_same : {A : Type 0} (xs : List A) (k : ℕ) (old new : A) → slice_get xs k ≡ Some old → slice_get (slice_set xs k new) k ≡ Some new
slice_get-set_same [] k old new at = absurd (none-some old at)
slice_get-set_same (x ∷ xs) zero old new at = refl
slice_get-set_same (x ∷ xs) (suc k) old new at = slice_get-set_same xs k old new at

pub slice_get-set_other : {A : Type 0} (xs : List A) (j k : ℕ) (new : A) → (j ≡ k → ⊥) → slice_get (slice_set xs k new) j ≡ slice_get xs j
slice_get-set_other [] j k new other = refl
slice_get-set_other (x ∷ xs) zero zero new other = absurd (other refl)
slice_get-set_other (x ∷ xs) zero (suc k) new other = refl
slice_get-set_other (x ∷ xs) (suc j) zero new other = refl
slice_get-set_other (x ∷ xs) (suc j) (suc k) new other = slice_get-set_other xs j k new (λ e. other (ap suc e))

pub count-set : {A : Type 0} (p : A → Bool) (xs : List A) (k : ℕ) (old new : A) → slice_get xs k ≡ Some old → count_by p (slice_set xs k new) + weight (p old) 1 ≡ count_by p xs + weight (p new) 1
count-set {A} p xs k old new at =
    subst (λ (a : A). count_by p (slice_set xs k new) + weight (p a) 1 ≡ count_by p xs + weight (p new) 1) (get_or_from_slice_get xs k old old at) (sum_by-set (λ x. cond (p x) 1 0) xs k new old (slice_get_within xs k old at))

-- none passes
pub count-none : {A : Type 0} (p : A → Bool) (xs : List A) → ((k : ℕ) (a : A) → slice_get xs k ≡ Some a → p a ≡ false) → count_by p xs ≡ 0
count-none p [] none = refl
count-none p (x ∷ xs) none =
    sum_by-cons (λ y. cond (p y) 1 0) x xs
    ∙ (λ i. cond (none 0 x refl i) 1 0 + count-none p xs (λ k a at. none (suc k) a at) i)

-- ---- sums, item by item
pub count-cons : {A : Type 0} (p : A → Bool) (x : A) (xs : List A) → count_by p (x ∷ xs) ≡ weight (p x) 1 + count_by p xs
count-cons p x xs = sum_by-cons (λ y. cond (p y) 1 0) x xs

-- where each item adds no more to p than to q and r, there are no more of p
pub count-two : {A : Type 0} (p q r : A → Bool) (xs : List A) → ((k : ℕ) (a : A) → slice_get xs k ≡ Some a → weight (p a) 1 ≤ weight (q a) 1 + weight (r a) 1) → count_by p xs ≤ count_by q xs + count_by r xs
count-two p q r [] each = omega arith
count-two p q r (x ∷ xs) each = omega (arith, count-cons p x xs, count-cons q x xs, count-cons r x xs, each 0 x refl, count-two p q r xs (λ k a at. each (suc k) a at))

-- and one more of these, where one item adds less to p
pub count-fewer : {A : Type 0} (p q r : A → Bool) (xs : List A) (j : ℕ) (b : A) → ((k : ℕ) (a : A) → slice_get xs k ≡ Some a → weight (p a) 1 ≤ weight (q a) 1 + weight (r a) 1) → slice_get xs j ≡ Some b → weight (p b) 1 < weight (q b) 1 + weight (r b) 1 → count_by p xs < count_by q xs + count_by r xs
count-fewer p q r [] j b each at less = absurd (none-some b at)
count-fewer {A} p q r (x ∷ xs) zero b each at less =
    let here : weight (p x) 1 < weight (q x) 1 + weight (r x) 1 = subst (λ (a : A). weight (p a) 1 < weight (q a) 1 + weight (r a) 1) (sym (same_Some x b at)) less in
    omega (arith, here, count-cons p x xs, count-cons q x xs, count-cons r x xs, count-two p q r xs (λ k a there. each (suc k) a there))
count-fewer p q r (x ∷ xs) (suc j) b each at less = omega (arith, count-cons p x xs, count-cons q x xs, count-cons r x xs, each 0 x refl, count-fewer p q r xs j b (λ k a there. each (suc k) a there) at less)

-- where each adds no more to q and r than to p, there are no more of these
pub two-count : {A : Type 0} (p q r : A → Bool) (xs : List A) → ((k : ℕ) (a : A) → slice_get xs k ≡ Some a → weight (q a) 1 + weight (r a) 1 ≤ weight (p a) 1) → count_by q xs + count_by r xs ≤ count_by p xs
two-count p q r [] each = omega arith
two-count p q r (x ∷ xs) each = omega (arith, count-cons p x xs, count-cons q x xs, count-cons r x xs, each 0 x refl, two-count p q r xs (λ k a at. each (suc k) a at))

weight-le : (b c : Bool) → (b ≡ true → c ≡ true) → weight b 1 ≤ weight c 1
weight-le true true h = omega arith
weight-le true false h = absurd (false≢true (h refl))
weight-le false true h = omega arith
weight-le false false h = omega arith

pub count-le : {A : Type 0} (p q : A → Bool) (xs : List A) → ((k : ℕ) (a : A) → slice_get xs k ≡ Some a → p a ≡ true → q a ≡ true) → count_by p xs ≤ count_by q xs
count-le p q [] each = omega arith
count-le p q (x ∷ xs) each = omega (arith, count-cons p x xs, count-cons q x xs, weight-le (p x) (q x) (each 0 x refl), count-le p q xs (λ k a at. each (suc k) a at))

-- no two places pass
pub count-one : {A : Type 0} (p : A → Bool) (xs : List A) → ((j k : ℕ) (a b : A) → slice_get xs j ≡ Some a → slice_get xs k ≡ Some b → p a ≡ true → p b ≡ true → j ≡ k) → count_by p xs ≤ 1
count-one p [] one = omega arith
count-one {A} p (x ∷ xs) one = by (p x) refl (count-one p xs (λ j k a b at there passes again. let next : suc j ≡ suc k = one (suc j) (suc k) a b at there passes again in omega arith))
  where
    by : (b : Bool) → p x ≡ b → count_by p xs ≤ 1 → count_by p (x ∷ xs) ≤ 1
    by false e few = omega (arith, count-cons p x xs, ap (λ b. weight b 1) e)
    by true e few =
        let none = count-none p xs (λ (k : ℕ) (a : A) (at : slice_get xs k ≡ Some a). false_from_ne_true (p a) (λ passes. let same : zero ≡ suc k = one zero (suc k) x a refl at e passes in omega arith)) in
        omega (arith, count-cons p x xs, ap (λ b. weight b 1) e, none)

-- whatever passes is fitted by one of the others, and each of these fits one item at most: there are no more of the first
pub count-cover : {A B : Type 0} (p : A → Bool) (fits : B → A → Bool) (xs : List A) (ys : List B) → ((k : ℕ) (a : A) → slice_get xs k ≡ Some a → p a ≡ true → list_any (λ y. fits y a) ys ≡ true) → ((y : B) → count_by (fits y) xs ≤ 1) → count_by p xs ≤ length ys
count-cover {A} p fits xs [] covered once =
    let none = count-none p xs (λ (k : ℕ) (a : A) (at : slice_get xs k ≡ Some a). false_from_ne_true (p a) (λ passes. false≢true (covered k a at passes))) in
    omega (arith, none)
count-cover {A} p fits xs (y ∷ ys) covered once =
    let rest : A → Bool = λ a. p a && not (fits y a) in
    let split = count-two p (fits y) rest xs (λ (k : ℕ) (a : A) (at : slice_get xs k ≡ Some a). either (p a) (fits y a)) in
    let others = count-cover rest fits xs ys (λ k a at passes. left (p a) (fits y a) (list_any (λ z. fits z a) ys) (covered k a at) passes) once in
    omega (arith, split, once y, others)
  where
    either : (b c : Bool) → weight b 1 ≤ weight c 1 + weight (b && not c) 1
    either true true = omega arith
    either true false = omega arith
    either false true = omega arith
    either false false = omega arith

    left : (b c d : Bool) → (b ≡ true → (c || d) ≡ true) → (b && not c) ≡ true → d ≡ true
    left true true d h passes = absurd (false≢true passes)
    left true false d h passes = h refl
    left false c d h passes = absurd (false≢true passes)

pub count-all : {A : Type 0} (xs : List A) → count_by (λ a. true) xs ≡ length xs
count-all [] = refl
count-all (x ∷ xs) = omega (arith, count-cons (λ a. true) x xs, count-all xs)

-- Of two lists: each item of the second that passes is fitted by one of the first that passes, and each of these fits one item at most. Then no more of the second pass.
pub count-back : {A B : Type 0} (p : A → Bool) (q : B → Bool) (fits : A → B → Bool) (xs : List A) (ys : List B) → ((k : ℕ) (b : B) → slice_get ys k ≡ Some b → q b ≡ true → (j : ℕ) × (a : A) × (slice_get xs j ≡ Some a) × (p a ≡ true) × (fits a b ≡ true)) → ((a : A) → count_by (fits a) ys ≤ 1) → count_by q ys ≤ count_by p xs
count-back {A} {B} p q fits [] ys fitted once =
    let none = count-none q ys (λ (k : ℕ) (b : B) (at : slice_get ys k ≡ Some b). false_from_ne_true (q b) (λ passes. let f = fitted k b at passes in none-some f.1 f.2)) in
    omega (arith, none)
count-back {A} {B} p q fits (x ∷ xs) ys fitted once =
    let own : B → Bool = λ b. p x && fits x b in
    let rest : B → Bool = λ b. q b && not (own b) in
    let split = count-two q own rest ys (λ (k : ℕ) (b : B) (at : slice_get ys k ≡ Some b). either (q b) (own b)) in
    let others = count-back p rest fits xs ys (λ k b at passes. later k b at passes) once in
    omega (arith, split, few (p x), others, count-cons p x xs)
  where
    either : (b c : Bool) → weight b 1 ≤ weight c 1 + weight (b && not c) 1
    either true true = omega arith
    either true false = omega arith
    either false true = omega arith
    either false false = omega arith

    few : (c : Bool) → count_by (λ b. c && fits x b) ys ≤ weight c 1
    few true = once x
    few false = let none = count-none (λ (b : B). false) ys (λ k b at. refl) in omega (arith, none)

    later : (k : ℕ) (b : B) → slice_get ys k ≡ Some b → (q b && not (p x && fits x b)) ≡ true → (j : ℕ) × (a : A) × (slice_get xs j ≡ Some a) × (p a ≡ true) × (fits a b ≡ true)
    later k b at passes = let parts = and_parts (q b) (not (p x && fits x b)) passes in let f = fitted k b at parts.0 in by f.0 f.1 f.2 f.3 f.4
      where
        by : (j : ℕ) (a : A) → slice_get (x ∷ xs) j ≡ Some a → p a ≡ true → fits a b ≡ true → (j : ℕ) × (a : A) × (slice_get xs j ≡ Some a) × (p a ≡ true) × (fits a b ≡ true)
        by zero a there pass fit =
            let same : x ≡ a = same_Some x a there in
            let own : (p x && fits x b) ≡ true = and_from (p x) (fits x b) (ap p same ∙ pass) (ap (λ (o : A). fits o b) same ∙ fit) in
            absurd (both_ways (p x && fits x b) (not-true (p x && fits x b) (and_parts (q b) (not (p x && fits x b)) passes).1) own)
        by (suc j) a there pass fit = (j, a, there, pass, fit)
