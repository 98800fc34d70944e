-- The grammar of the text of rules.
use Rattle.std.specs.Prelude.{◌≡◌, ◌↔◌, ℕ, ◌≤◌, ◌<◌, List, [], ◌∷◌, ◌++◌, length, codes, Some, Ok, Err}
use Rattle.tg_names.specs.declared.right_sets.Rights.{Rights}
use Rattle.tg_graph.specs.declared.rules.Rule.{Rule}
use Rattle.tg_graph.specs.declared.rules.Rule.TheVariants.{Take, Grant, Create, Remove}
use Rattle.tg_names.specs.Names.{IsName, Name}
use Rattle.tg_names.specs.Letters.{set_of_letters}
use Rattle.tg_words.specs.declared.faults.TextKind.{TextKind}
use Rattle.tg_text.specs.declared.rule_text.RuleLine.{RuleLine}
use Rattle.tg_words.specs.Lines.{lines_of, words_of}
use Rattle.tg_words.specs.Words.{Word}
use Rattle.tg_text.specs.RuleText.{rule_of_line, rules_text}
use Rattle.tg_text.specs.Grammar.{AreLines, IsFirstFault}
use Rattle.tg_words.specs.Limits.{most_line_bytes, most_rules}

-- two names and a set of rights
pub record SpellsTwoNames (words : List Word) (x y : Name) (s : Rights) : Type 0 where
  pub letters : Word
  pub spelled : words ≡ x ∷ y ∷ letters ∷ []
  pub x_is_name : IsName x
  pub y_is_name : IsName y
  pub rights : set_of_letters letters ≡ Some s

-- three names and a set of rights
pub record SpellsThreeNames (words : List Word) (x y z : Name) (s : Rights) : Type 0 where
  pub letters : Word
  pub spelled : words ≡ x ∷ y ∷ z ∷ letters ∷ []
  pub x_is_name : IsName x
  pub y_is_name : IsName y
  pub z_is_name : IsName z
  pub rights : set_of_letters letters ≡ Some s

-- the keyword, and then words with the fact P
pub record Spells (keyword : Word) (P : List Word → Type 0) (words : List Word) : Type 0 where
  pub rest : List Word
  pub spelled : words ≡ keyword ∷ rest
  pub means : P rest

-- the words write the rule
abbrev pub SpellsRule : List Word → Rule → Type 0
SpellsRule words (Take x y z s) = Spells (codes "take") (λ rest. SpellsThreeNames rest x y z s) words
SpellsRule words (Grant x y z s) = Spells (codes "grant") (λ rest. SpellsThreeNames rest x y z s) words
SpellsRule words (Create x n s) = Spells (codes "create") (λ rest. SpellsTwoNames rest x n s) words
SpellsRule words (Remove x y s) = Spells (codes "remove") (λ rest. SpellsTwoNames rest x y s) words

-- a line that is not too long writes the rule
abbrev pub IsRuleLine : List ℕ → Rule → Type 0
IsRuleLine line rule = (length line ≤ most_line_bytes) × SpellsRule (words_of line) rule

-- one more rule, where there is room for it
abbrev pub IsRuleItem : ℕ → List RuleLine → List Word → List RuleLine → Type 0
IsRuleItem n rules words more = (rule : Rule) × SpellsRule words rule × (length rules < most_rules) × (more ≡ rules ++ record { line = n; rule = rule } ∷ [])

-- the lines write the rules
abbrev pub IsRulesText : List (List ℕ) → List RuleLine → Type 0
IsRulesText lines rules = AreLines IsRuleItem 1 [] lines rules

-- a line has a rule exactly where the grammar gives it that rule
abbrev pub RuleLinesAreThose : Type 0
RuleLinesAreThose = (line : List ℕ) (rule : Rule) → (rule_of_line line ≡ Ok rule) ↔ IsRuleLine line rule

-- a text has a list of rules exactly where the grammar gives it that list
abbrev pub RulesTextsAreThose : Type 0
RulesTextsAreThose = (text : List ℕ) (rules : List RuleLine) → (rules_text text ≡ Ok rules) ↔ IsRulesText (lines_of text) rules

-- a fault names the first line to which the grammar gives no rule
abbrev pub RuleFaultsAreFirst : Type 0
RuleFaultsAreFirst = (text : List ℕ) (m : ℕ) (kind : TextKind) → rules_text text ≡ Err (m, kind) → IsFirstFault IsRuleItem 1 [] (lines_of text) m
