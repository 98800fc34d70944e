-- Positions of a list.
use Rattle.std.proofs.Common.{◌≡◌, ℕ, ◌<◌, true, false, List, [], ◌∷◌, ◌++◌, refl, sym, ◌∙◌, nat_eq, length, get_or, true≢false, inl, inr, ◌⊎◌}
use Rattle.std.specs.List.{list_any}
use Rattle.std.proofs.lemmas.Bool.{eqb-true, eq-eqb, or_cases, or_left, or_right}
use Rattle.std.proofs.lemmas.List.Folds.{list_any-append, list_any_at}
use Rattle.tg_islands.specs.Positions.{IsOneOf}

pub one_of-append : (a : ℕ) (xs ys : List ℕ) → IsOneOf a (xs ++ ys) → IsOneOf a xs ⊎ IsOneOf a ys
one_of-append a xs ys h = or_cases (list_any (nat_eq a) xs) (list_any (nat_eq a) ys) (sym (list_any-append (nat_eq a) xs ys) ∙ h)

pub one_of-left : (a : ℕ) (xs ys : List ℕ) → IsOneOf a xs → IsOneOf a (xs ++ ys)
one_of-left a xs ys h = list_any-append (nat_eq a) xs ys ∙ or_left (list_any (nat_eq a) xs) (list_any (nat_eq a) ys) h

pub one_of-right : (a : ℕ) (xs ys : List ℕ) → IsOneOf a ys → IsOneOf a (xs ++ ys)
one_of-right a xs ys h = list_any-append (nat_eq a) xs ys ∙ or_right (list_any (nat_eq a) xs) (list_any (nat_eq a) ys) h

pub one_of-single : (a b : ℕ) → IsOneOf a (b ∷ []) → a ≡ b
one_of-single a b h = by (or_cases (nat_eq a b) false h)
  where
    by : (nat_eq a b ≡ true) ⊎ (false ≡ true) → a ≡ b
    by (inl e) = eqb-true a b e
    by (inr e) = absurd (true≢false (sym e))

pub single-one_of : (a : ℕ) → IsOneOf a (a ∷ [])
single-one_of a = or_left (nat_eq a a) false (eq-eqb a a refl)

pub item-one_of : (xs : List ℕ) (i : ℕ) → i < length xs → IsOneOf (get_or xs i 0) xs
item-one_of xs i h = list_any_at (nat_eq (get_or xs i 0)) xs i 0 h (eq-eqb (get_or xs i 0) (get_or xs i 0) refl)
