-- A line of a policy is its first two words, and then a space and a word for each operand.
use Rattle.std.proofs.Common.{◌≡◌, ℕ, List, [], ◌∷◌, ◌++◌, map, refl, sym, ap, ◌∙◌, append_assoc}
use Rattle.std.specs.Prelude.{codes}
use Rattle.std.specs.List.{flat_map}
use Rattle.std.proofs.lemmas.List.{append-nil}
use Rattle.tg_text.specs.declared.policy_text.Operand.{Operand}
use Rattle.tg_text.specs.declared.policy_text.Claim.{Claim}
use Rattle.tg_text.specs.declared.policy_text.Claim.TheVariants as claim
use Rattle.tg_words.specs.Words.{Word}
use Rattle.tg_words.specs.Spelling.{rights_text, spaced, line_of}
use Rattle.tg_text.specs.PolicyGrammar.{operand_word}
use Rattle.tg_text.specs.PolicyTrips.{claim_words}

-- what is written of an operand
abbrev pub operand_text : Operand → List ℕ
operand_text x = 32 ∷ operand_word x

abbrev pub operand_texts : List Operand → List ℕ
operand_texts xs = flat_map operand_text xs

pub spaced-more : (word : Word) (words : List Word) → spaced (word ∷ words) ≡ word ++ flat_map (λ w. 32 ∷ w) words
spaced-more word [] = sym (append-nil word)
spaced-more word (next ∷ words) = ap (λ (bs : List ℕ). word ++ 32 ∷ bs) (spaced-more next words)

mapped : (xs : List Operand) → flat_map (λ w. 32 ∷ w) (map operand_word xs) ≡ operand_texts xs
mapped [] = refl
mapped (x ∷ xs) = ap (λ (bs : List ℕ). 32 ∷ (operand_word x ++ bs)) (mapped xs)

two-words : (keyword word : Word) (xs : List Operand) → spaced (keyword ∷ word ∷ map operand_word xs) ≡ (keyword ++ 32 ∷ word) ++ operand_texts xs
two-words keyword word xs =
    ap (λ (bs : List ℕ). keyword ++ 32 ∷ bs) (spaced-more word (map operand_word xs))
    ∙ (ap (λ (bs : List ℕ). keyword ++ 32 ∷ (word ++ bs)) (mapped xs)
    ∙ sym (append_assoc keyword (32 ∷ word) (operand_texts xs)))

all-words : (says : Claim) (xs : List Operand) → spaced (claim_words says ++ map operand_word xs) ≡ spaced (claim_words says) ++ operand_texts xs
all-words (claim.Group n) xs = two-words (codes "group") n xs
all-words (claim.Never s) xs = two-words (codes "never") (rights_text s) xs
all-words (claim.May s) xs = two-words (codes "may") (rights_text s) xs
all-words (claim.Only s) xs = two-words (codes "only") (rights_text s) xs

-- a line that is written piece by piece
pub whole-line : (before : List ℕ) (says : Claim) (xs : List Operand) → ((before ++ spaced (claim_words says)) ++ operand_texts xs) ++ 10 ∷ [] ≡ before ++ line_of (claim_words says ++ map operand_word xs)
whole-line before says xs =
    ap (λ (bs : List ℕ). bs ++ 10 ∷ []) (append_assoc before (spaced (claim_words says)) (operand_texts xs))
    ∙ (append_assoc before (spaced (claim_words says) ++ operand_texts xs) (10 ∷ [])
    ∙ ap (λ (bs : List ℕ). before ++ (bs ++ 10 ∷ [])) (sym (all-words says xs)))
