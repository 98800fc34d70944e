-- Letters written one by one.
use Rattle.std.proofs.Common.{◌≡◌, ℕ, ◌+◌, ◌<◌, ◌≤◌, Bool, true, false, List, [], ◌∷◌, drop, length, get_or, sym, ap, ◌∙◌, if◌then◌else◌, arith}
use Rattle.std.proofs.lemmas.List.{at_drop_more}
use Rattle.tg_names.specs.declared.right_sets.Right.{Right}
use Rattle.tg_names.specs.declared.right_sets.Rights.{Rights}
use Rattle.tg_names.specs.Sets.{member}
use Rattle.tg_names.specs.Letters.{letters_among, letter_of}

abbrev after_one : Bool → ℕ → List ℕ → List ℕ
after_one b letter rest = if b then letter ∷ rest else rest

pub letters-step : (s : Rights) (rights : List Right) (i : ℕ) (right : Right) → i < length rights → right ≡ get_or rights i right → letters_among s (drop i rights) ≡ after_one (member s right) (letter_of right) (letters_among s (drop (i + 1) rights))
letters-step s rights i right h e =
    at_drop_more (letters_among s) rights i right h ∙ ap (λ r. after_one (member s r) (letter_of r) (letters_among s (drop (i + 1) rights))) (sym e)

pub length-letters : (s : Rights) (rights : List Right) → length (letters_among s rights) ≤ length rights
length-letters s [] = omega arith
length-letters s (right ∷ rights) =
    elim (member s right) as (λ b. length (after_one b (letter_of right) (letters_among s rights)) ≤ length (right ∷ rights)) [
      | true ↦ omega (arith, length-letters s rights)
      | false ↦ omega (arith, length-letters s rights)
    ]
