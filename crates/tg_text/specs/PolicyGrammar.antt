-- The grammar of the text of a policy.
use Rattle.std.specs.Prelude.{◌≡◌, ◌↔◌, ◌⊎◌, ℕ, ◌+◌, ◌<◌, true, false, All, List, [], ◌∷◌, ◌++◌, length, map, codes, Some, Ok, Err}
use Rattle.tg_names.specs.declared.right_sets.Rights.{Rights}
use Rattle.tg_names.specs.Names.{IsName}
use Rattle.tg_names.specs.Sets.{is_empty_set}
use Rattle.tg_names.specs.Letters.{set_of_letters}
use Rattle.tg_graph.specs.Graphs.{ProtectionGraph}
use Rattle.tg_words.specs.declared.faults.TextKind.{TextKind}
use Rattle.tg_text.specs.declared.policy_text.Operand.{Operand}
use Rattle.tg_text.specs.declared.policy_text.Operand.TheVariants as operand
use Rattle.tg_text.specs.declared.policy_text.Claim.{Claim}
use Rattle.tg_text.specs.declared.policy_text.Claim.TheVariants as claim
use Rattle.tg_words.specs.Lines.{lines_of}
use Rattle.tg_words.specs.Words.{Word}
use Rattle.tg_text.specs.PolicyText.{PolicyLineOf, policy_text, has_claim, IsKnown, MayHave}
use Rattle.tg_text.specs.Grammar.{AreLines, IsFirstFault}
use Rattle.tg_words.specs.Limits.{most_policy_lines}

-- a vertex is written as its name, a group as `@` and its name
abbrev pub operand_word : Operand → Word
operand_word (operand.Vertex v) = v
operand_word (operand.Group n) = 64 ∷ n

-- the word writes a set of rights that is not empty
pub record WritesRights (word : Word) (s : Rights) : Type 0 where
  pub rights : set_of_letters word ≡ Some s
  pub some : is_empty_set s ≡ false

-- the first two words of a line write the claim
abbrev pub WritesClaim : Word → Word → Claim → Type 0
WritesClaim keyword word (claim.Group n) = (keyword ≡ codes "group") × (word ≡ n) × IsName n
WritesClaim keyword word (claim.Never s) = (keyword ≡ codes "never") × WritesRights word s
WritesClaim keyword word (claim.May s) = (keyword ≡ codes "may") × WritesRights word s
WritesClaim keyword word (claim.Only s) = (keyword ≡ codes "only") × WritesRights word s

-- two words write a claim, and those behind them as many operands as it may have, each known by the graph and the earlier lines; there is room for one more line
pub record IsPolicyItem (g : ProtectionGraph) (n : ℕ) (lines : List PolicyLineOf) (words : List Word) (more : List PolicyLineOf) : Type 0 where
  pub keyword : Word
  pub word : Word
  pub claim : Claim
  pub operands : List Operand
  pub spelled : words ≡ keyword ∷ word ∷ map operand_word operands
  pub writes : WritesClaim keyword word claim
  pub count : MayHave claim (length operands)
  pub known : All (IsKnown g lines) operands
  pub room : length lines < most_policy_lines
  pub makes : more ≡ lines ++ record { line = n; claim = claim; operands = operands } ∷ []

-- the lines of a text write the lines of the policy, and one of them states something
pub record IsPolicyText (g : ProtectionGraph) (text : List (List ℕ)) (lines : List PolicyLineOf) : Type 0 where
  pub written : AreLines (IsPolicyItem g) 1 [] text lines
  pub claim : has_claim lines ≡ true

-- the lines of a text write lines of which none states anything; m is the line behind the last
pub record StatesNothing (g : ProtectionGraph) (text : List (List ℕ)) (m : ℕ) : Type 0 where
  pub number : m ≡ length text + 1
  pub lines : List PolicyLineOf
  pub written : AreLines (IsPolicyItem g) 1 [] text lines
  pub none : has_claim lines ≡ false

-- a text has the lines of a policy exactly where the grammar gives it these
abbrev pub PolicyTextsAreThose : Type 0
PolicyTextsAreThose = (g : ProtectionGraph) (text : List ℕ) (lines : List PolicyLineOf) → (policy_text g text ≡ Ok lines) ↔ IsPolicyText g (lines_of text) lines

-- a fault names the first line to which the grammar gives nothing, or the line behind the last where no line states anything
abbrev pub PolicyFaultsAreFirst : Type 0
PolicyFaultsAreFirst = (g : ProtectionGraph) (text : List ℕ) (m : ℕ) (kind : TextKind) → policy_text g text ≡ Err (m, kind) → IsFirstFault (IsPolicyItem g) 1 [] (lines_of text) m ⊎ StatesNothing g (lines_of text) m
