-- The text of rules.
use Rattle.std.specs.Prelude.{All, ℕ, ◌+◌, nat_lt, nat_le, List, [], ◌∷◌, length, codes, Result, Ok, Err, if◌then◌else◌}
use Rattle.std.specs.List.{fold}
use Rattle.tg_names.specs.declared.right_sets.Rights.{Rights}
use Rattle.tg_graph.specs.declared.rules.Rule.{Rule}
use Rattle.tg_graph.specs.declared.rules.Rule.TheVariants.{Take, Grant, Create, Remove}
use Rattle.tg_names.specs.Sets.{IsNamed}
use Rattle.tg_graph.specs.Rules.{rights_of}
use Rattle.tg_names.specs.Names.{Name}
use Rattle.tg_words.specs.declared.faults.TextKind.{TextKind}
use Rattle.tg_words.specs.declared.faults.TextKind.TheVariants.{LineTooLong, BadWord, TooMany}
use Rattle.tg_text.specs.declared.rule_text.RuleLine.{RuleLine}
use Rattle.tg_words.specs.Lines.{lines_of, words_of}
use Rattle.tg_words.specs.Reading.{◌>>=◌, after_lines, with_item}
use Rattle.tg_words.specs.Words.{Word, is_word, three_words, four_words, name_at, rights_at}
use Rattle.tg_words.specs.Limits.{most_line_bytes, most_rules}

-- two names and a set of rights
unfoldable pub two_names : List Word → Result (Name × Name × Rights) TextKind
two_names words = do
  w ← three_words words
  x ← name_at w.0
  y ← name_at w.1
  s ← rights_at w.2
  Ok (x, y, s)

-- three names and a set of rights
unfoldable pub three_names : List Word → Result (Name × Name × Name × Rights) TextKind
three_names words = do
  w ← four_words words
  x ← name_at w.0
  y ← name_at w.1
  z ← name_at w.2
  s ← rights_at w.3
  Ok (x, y, z, s)

-- the rule that words write
unfoldable pub rule_of_words : List Word → Result Rule TextKind
rule_of_words [] = Err BadWord
rule_of_words (word ∷ words) =
    if is_word word (codes "take") then (three_names words >>= λ a. Ok (Take a.0 a.1 a.2 a.3))
    else (if is_word word (codes "grant") then (three_names words >>= λ a. Ok (Grant a.0 a.1 a.2 a.3))
    else (if is_word word (codes "create") then (two_names words >>= λ a. Ok (Create a.0 a.1 a.2))
    else (if is_word word (codes "remove") then (two_names words >>= λ a. Ok (Remove a.0 a.1 a.2))
    else Err BadWord)))

-- The rule that a line writes. A line that a text would skip writes none.
abbrev pub rule_of_line : List ℕ → Result Rule TextKind
rule_of_line line = if nat_lt most_line_bytes (length line) then Err LineTooLong else rule_of_words (words_of line)

-- the rule of the line with this number
unfoldable pub rule_line : ℕ → List Word → Result RuleLine TextKind
rule_line n words = rule_of_words words >>= λ rule. Ok (record { line = n; rule = rule })

-- one more rule, of the line with this number
unfoldable pub rule_item : ℕ → List RuleLine → List Word → Result (List RuleLine) TextKind
rule_item n rules words = with_item most_rules rules (rule_line n words)

-- the rules of a text, or the first faulty line and what is wrong with it
unfoldable pub rules_text : List ℕ → Result (List RuleLine) (ℕ × TextKind)
rules_text bytes = after_lines rule_item 1 [] (lines_of bytes)

-- one more rule, of the line with this number, for what the rules so far made, and how many they were
unfoldable pub counted_item : {A : Type 0} → (A → RuleLine → A) → ℕ → A × ℕ → List Word → Result (A × ℕ) TextKind
counted_item with_rule n made words = rule_line n words >>= λ rule. if nat_le most_rules made.1 then Err TooMany else Ok (with_rule made.0 rule, made.1 + 1)

-- what the rules of a text make in turn, or the first faulty line and what is wrong with it
abbrev pub rules_make : {A : Type 0} → (A → RuleLine → A) → A → List ℕ → Result A (ℕ × TextKind)
rules_make with_rule start bytes = rules_text bytes >>= λ rules. Ok (fold with_rule start rules)

-- no set of rights has an unnamed bit
abbrev pub AreNamedLines : List RuleLine → Type 0
AreNamedLines rules = All (λ line. IsNamed (rights_of line.rule)) rules
