-- A policy as text, and that what is written is read as it was.
use Rattle.std.specs.Prelude.{◌≡◌, ◌≤◌, ℕ, ◌+◌, true, All, List, [], ◌∷◌, ◌++◌, length, map, codes, Ok}
use Rattle.std.specs.List.{flat_map}
use Rattle.tg_graph.specs.Graphs.{ProtectionGraph}
use Rattle.tg_text.specs.declared.policy_text.Claim.{Claim}
use Rattle.tg_text.specs.declared.policy_text.Claim.TheVariants as claim
use Rattle.tg_words.specs.Words.{Word}
use Rattle.tg_words.specs.Spelling.{rights_text, spaced, line_of}
use Rattle.tg_text.specs.PolicyText.{PolicyLineOf, ArePolicyLines, has_claim, policy_text}
use Rattle.tg_text.specs.PolicyGrammar.{operand_word}
use Rattle.tg_words.specs.Limits.{most_line_bytes, most_policy_lines}

abbrev pub claim_words : Claim → List Word
claim_words (claim.Group n) = codes "group" ∷ n ∷ []
claim_words (claim.Never s) = codes "never" ∷ rights_text s ∷ []
claim_words (claim.May s) = codes "may" ∷ rights_text s ∷ []
claim_words (claim.Only s) = codes "only" ∷ rights_text s ∷ []

-- the claim, and then each operand
abbrev pub policy_words : PolicyLineOf → List Word
policy_words line = claim_words line.claim ++ map operand_word line.operands

-- a line for each
abbrev pub lines_of_policy : List PolicyLineOf → List ℕ
lines_of_policy lines = flat_map (λ line. line_of (policy_words line)) lines

-- the same lines, the first of them with the number n
abbrev pub renumbered : ℕ → List PolicyLineOf → List PolicyLineOf
renumbered n [] = []
renumbered n (line ∷ lines) = record line { line = n } ∷ renumbered (n + 1) lines

-- lines that are no more, and as text none of them longer, than a policy may have
pub record FitsText (lines : List PolicyLineOf) : Type 0 where
  pub few : length lines ≤ most_policy_lines
  pub short : All (λ line. length (spaced (policy_words line)) ≤ most_line_bytes) lines

-- Lines that a policy over the graph may have, one of which states something, are read as they were written, on the lines 1, 2 and so on.
abbrev pub PoliciesAreReadAsWritten : Type 0
PoliciesAreReadAsWritten = (g : ProtectionGraph) (lines : List PolicyLineOf) → ArePolicyLines g lines → FitsText lines → has_claim lines ≡ true → policy_text g (lines_of_policy lines) ≡ Ok (renumbered 1 lines)

-- The lines of a text are such.
abbrev pub ReadPoliciesFit : Type 0
ReadPoliciesFit = (g : ProtectionGraph) (text : List ℕ) (lines : List PolicyLineOf) → policy_text g text ≡ Ok lines → ArePolicyLines g lines × FitsText lines × (has_claim lines ≡ true)
