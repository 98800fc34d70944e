-- The word of a set of rights is plain, and short.
use Rattle.std.proofs.Common.{◌≡◌, ℕ, ◌≤◌, true, false, List, [], ◌∷◌, length, refl, arith, if◌then◌else◌}
use Rattle.tg_names.specs.declared.right_sets.Right.{Right}
use Rattle.tg_names.specs.declared.right_sets.Right.TheVariants.{T, G, R, W, E, A, D}
use Rattle.tg_names.specs.declared.right_sets.Rights.{Rights}
use Rattle.tg_names.specs.Sets.{member}
use Rattle.tg_names.specs.Letters.{letters_among, letters_of, letter_of, all_rights}
use Rattle.tg_words.specs.Spelling.{or_dash, rights_text}
use Rattle.tg_text_laws.proofs.Letters.{length-letters}
use Rattle.tg_text.proofs.PlainWords.{is_plain, Plain, IsPlainWord}

letter-plain : (right : Right) → is_plain (letter_of right) ≡ true
letter-plain T = refl
letter-plain G = refl
letter-plain R = refl
letter-plain W = refl
letter-plain E = refl
letter-plain A = refl
letter-plain D = refl

letters-plain : (s : Rights) (rights : List Right) → Plain (letters_among s rights)
letters-plain s [] = tt
letters-plain s (right ∷ rights) =
    elim (member s right) as (λ b. Plain (if b then letter_of right ∷ letters_among s rights else letters_among s rights)) [
      | true ↦ (letter-plain right, letters-plain s rights)
      | false ↦ letters-plain s rights
    ]

dash_word : (bs : List ℕ) → Plain bs → IsPlainWord (or_dash bs)
dash_word [] p = record { some = omega arith; plain = (refl, tt) }
dash_word (b ∷ bs) p = record { some = omega arith; plain = p }

pub rights_word : (s : Rights) → IsPlainWord (rights_text s)
rights_word s = dash_word (letters_of s) (letters-plain s all_rights)

length-dash : (bs : List ℕ) → length bs ≤ 7 → length (or_dash bs) ≤ 7
length-dash [] h = omega arith
length-dash (b ∷ bs) h = h

pub length-rights : (s : Rights) → length (rights_text s) ≤ 7
length-rights s = length-dash (letters_of s) (length-letters s all_rights)
