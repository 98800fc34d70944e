-- The rules of a text that are read are those that its lines write.
use Rattle.std.proofs.Common.{◌≡◌, sym, ◌∙◌, ap, ℕ, Bool, false, cond, ltb, List, [], ◌∷◌, ◌++◌, length, Result, Ok, Err}
use Rattle.std.proofs.lemmas.Bool.{ltb-false, le-ltb}
use Rattle.tg_graph.specs.declared.rules.Rule.{Rule}
use Rattle.tg_words.specs.declared.faults.TextKind.{TextKind}
use Rattle.tg_words.specs.declared.faults.TextKind.TheVariants.{LineTooLong}
use Rattle.tg_text.specs.declared.rule_text.RuleLine.{RuleLine}
use Rattle.tg_words.specs.Lines.{lines_of, words_of}
use Rattle.tg_words.specs.Words.{Word}
use Rattle.tg_words.specs.Reading.{◌>>=◌}
use Rattle.tg_text.specs.RuleText.{rule_of_words, rule_line, rule_item, rules_text}
use Rattle.tg_text.specs.RuleGrammar.{IsRuleItem, RuleLinesAreThose, RulesTextsAreThose, RuleFaultsAreFirst}
use Rattle.tg_text.proofs.Steps.{ok_is, bind_ok, else_ok}
use Rattle.tg_text.proofs.GrammarLaws.{lines_ok, lines_from, lines_fault}
use Rattle.tg_words.specs.Limits.{most_line_bytes, most_rules}
use Rattle.tg_text.proofs.RuleLaws.{rule_ok, rule_from, item_ok, item_from}

abbrev rule_at : ℕ → Rule → RuleLine
rule_at n rule = record { line = n; rule = rule }

rule_line_ok : (n : ℕ) (words : List Word) (found : RuleLine) → rule_line n words ≡ Ok found → (rule : Rule) × (rule_of_words words ≡ Ok rule) × (found ≡ rule_at n rule)
unfolding rule_line
rule_line_ok n words found e =
    let b = bind_ok (rule_of_words words) (λ rule. Ok (rule_at n rule)) found e in
    (b.0, b.1, sym (ok_is (rule_at n b.0) found b.2))

rule_line_from : (n : ℕ) (words : List Word) (rule : Rule) → rule_of_words words ≡ Ok rule → rule_line n words ≡ Ok (rule_at n rule)
unfolding rule_line
rule_line_from n words rule e = ap (λ (r : Result Rule TextKind). r >>= λ rule. Ok (rule_at n rule)) e

pub rule_item_ok : (n : ℕ) (rules : List RuleLine) (words : List Word) (more : List RuleLine) → rule_item n rules words ≡ Ok more → IsRuleItem n rules words more
unfolding rule_item
rule_item_ok n rules words more e =
    let i = item_ok most_rules rules (rule_line n words) more e in
    let l = rule_line_ok n words i.0 i.1 in
    (l.0, rule_ok words l.0 l.1, i.2, i.3 ∙ ap (λ (x : RuleLine). rules ++ x ∷ []) l.2)

pub rule_item_from : (n : ℕ) (rules : List RuleLine) (words : List Word) (more : List RuleLine) → IsRuleItem n rules words more → rule_item n rules words ≡ Ok more
unfolding rule_item
rule_item_from n rules words more h =
    item_from most_rules rules (rule_line n words) (rule_at n h.0) more (rule_line_from n words h.0 (rule_from words h.0 h.1)) h.2 h.3

pub rule_lines_are_those : RuleLinesAreThose
rule_lines_are_those line rule = (
  λ e.
      let g = else_ok (ltb most_line_bytes (length line)) LineTooLong (rule_of_words (words_of line)) rule e in
      (ltb-false most_line_bytes (length line) g.0, rule_ok (words_of line) rule g.1),
  λ h.
      let short : ltb most_line_bytes (length line) ≡ false = le-ltb most_line_bytes (length line) h.0 in
      ap (λ (t : Bool). cond t (Err LineTooLong) (rule_of_words (words_of line))) short ∙ rule_from (words_of line) rule h.1,
)

pub rules_texts_are_those : RulesTextsAreThose
unfolding rules_text
rules_texts_are_those text rules = (
  λ e. lines_ok rule_item IsRuleItem rule_item_ok rule_item_from 1 [] (lines_of text) rules e,
  λ h. lines_from rule_item IsRuleItem rule_item_ok rule_item_from 1 [] (lines_of text) rules h,
)

pub rule_faults_are_first : RuleFaultsAreFirst
unfolding rules_text
rule_faults_are_first text m kind e = lines_fault rule_item IsRuleItem rule_item_ok rule_item_from 1 [] (lines_of text) m kind e
