-- The letters of the rights of a set, one by one.
use Rattle.std.proofs.Common.{◌≡◌, ℕ, ◌<◌, ◌+◌, Bool, true, false, cond, List, [], ◌∷◌, ◌++◌, length, get_or, take, refl, sym, ap, ◌∙◌, append_assoc}
use Rattle.std.proofs.lemmas.List.{take_more}
use Rattle.tg_names.specs.declared.right_sets.Right.{Right}
use Rattle.tg_names.specs.declared.right_sets.Right.TheVariants.{T}
use Rattle.tg_names.specs.declared.right_sets.Rights.{Rights}
use Rattle.tg_names.specs.Sets.{member}
use Rattle.tg_names.specs.Letters.{letter_of, letters_among}

module _ (s : Rights) where
  letters-append : (xs ys : List Right) → letters_among s (xs ++ ys) ≡ letters_among s xs ++ letters_among s ys
  letters-append [] ys = refl
  letters-append (x ∷ xs) ys = by (member s x) (letters-append xs ys)
    where
      by : (t : Bool) → letters_among s (xs ++ ys) ≡ letters_among s xs ++ letters_among s ys → cond t (letter_of x ∷ letters_among s (xs ++ ys)) (letters_among s (xs ++ ys)) ≡ cond t (letter_of x ∷ letters_among s xs) (letters_among s xs) ++ letters_among s ys
      by true h = ap (λ (bs : List ℕ). letter_of x ∷ bs) h
      by false h = h

  -- the letter of one right more
  pub letters-more : (rights : List Right) (i : ℕ) (right : Right) (front before after : List ℕ) → i < length rights → get_or rights i T ≡ right → before ≡ front ++ letters_among s (take i rights) → after ≡ before ++ letters_among s (right ∷ []) → after ≡ front ++ letters_among s (take (i + 1) rights)
  letters-more rights i right front before after low at so_far is =
      is
      ∙ ap (λ (bs : List ℕ). bs ++ letters_among s (right ∷ [])) so_far
      ∙ append_assoc front (letters_among s (take i rights)) (letters_among s (right ∷ []))
      ∙ ap (λ (bs : List ℕ). front ++ bs) (sym (letters-append (take i rights) (right ∷ [])))
      ∙ ap (λ (rs : List Right). front ++ letters_among s rs) (ap (λ (r : Right). take i rights ++ r ∷ []) (sym at) ∙ sym (take_more rights i T low))

  pub letter-there : (right : Right) → member s right ≡ true → letters_among s (right ∷ []) ≡ letter_of right ∷ []
  letter-there right h = ap (λ t. cond t (letter_of right ∷ []) []) h

  pub letter-absent : (right : Right) → member s right ≡ false → letters_among s (right ∷ []) ≡ []
  letter-absent right h = ap (λ t. cond t (letter_of right ∷ []) []) h
