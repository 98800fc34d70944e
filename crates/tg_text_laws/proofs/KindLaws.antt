-- The kind of a fault is the least one whose condition holds.
use Rattle.std.proofs.Common.{◌≡◌, refl, sym, ◌∙◌, ap, inl, inr, ℕ, ◌+◌, Bool, true, false, cond, leb, ltb, not, ◌&&◌, List, [], ◌∷◌, ◌++◌, length, Some, Result, Ok, Err}
use Rattle.std.specs.Prelude.{◌⊎◌, codes, is_some}
use Rattle.std.proofs.lemmas.Bool.{false≢true, and_parts}
use Rattle.tg_graph.specs.declared.rules.Rule.{Rule}
use Rattle.tg_graph.specs.Limits.{most_cells, most_seats}
use Rattle.tg_words.specs.declared.faults.TextKind.{TextKind}
use Rattle.tg_words.specs.declared.faults.TextKind.TheVariants.{LineTooLong, NoHeader}
use Rattle.tg_text.specs.declared.rule_text.RuleLine.{RuleLine}
use Rattle.tg_text.specs.declared.script_text.ScriptLine.{ScriptLine}
use Rattle.tg_text.specs.declared.script_text.Header.{Header}
use Rattle.tg_text.specs.declared.script_text.Header.TheVariants.{Nothing, Seats, Whole}
use Rattle.tg_words.specs.Limits.{most_events, most_line_bytes, most_rules}
use Rattle.tg_words.specs.Lines.{lines_of, words_of, is_skipped}
use Rattle.tg_words.specs.Words.{Word}
use Rattle.tg_words.specs.Reading.{◌>>=◌, after_line, after_lines}
use Rattle.tg_text.specs.GraphText.{nothing_read, graph_item, graph_text}
use Rattle.tg_text.specs.RuleText.{rule_of_words, rule_line, rule_item, rules_text}
use Rattle.tg_text.specs.ScriptText.{ScriptOf, event_of_words, event_item, script_item, with_header, script_text}
use Rattle.tg_text.specs.GraphGrammar.{IsGraphItem}
use Rattle.tg_text.specs.RuleGrammar.{IsRuleItem}
use Rattle.tg_text.specs.ScriptGrammar.{IsScriptItem, IsPartial, EndsEarly}
use Rattle.tg_text_laws.specs.Forms.{form_in, rule_forms, event_form, has_other_count, some_word, is_bad_number, is_bad_name, are_bad_rights}
use Rattle.tg_text_laws.specs.FaultKinds.{IsFaultOf, of_line, form_condition, graph_condition, rule_condition, one_rule_condition, script_condition, GraphLineKinds, GraphTextKinds, OneRuleKinds, RuleLineKinds, RulesTextKinds, ScriptLineKinds, ScriptTextKinds, NoHeaderIsEndsEarly}
use Rattle.tg_text_laws.proofs.LeastKind.{word_kinds, all_kinds, first_kind, fault_of, exactly_least}
use Rattle.tg_text_laws.proofs.FormKinds.{same_fault, with_last, rule_kinds, header_kinds, event_kinds}
use Rattle.tg_text_laws.proofs.GraphKinds.{graph_kinds}
use Rattle.tg_text.proofs.GrammarLaws.{cases_result, lines_ok, lines_from, lines_fault_kind, fault_from}
use Rattle.tg_text.proofs.GraphLaws.{graph_item_ok, graph_item_from, lines_refused}
use Rattle.tg_text_laws.proofs.RuleTexts.{rule_item_ok, rule_item_from}
use Rattle.tg_text.proofs.ScriptLaws.{State, start, item_is, item_back, partial}

-- ---- lines

abbrev in_parts : Bool → Bool → (TextKind → Bool) → TextKind → Bool
in_parts long skipped condition LineTooLong = long
in_parts long skipped condition kind = not skipped && condition kind

line_plain : {A : Type 0} (long skipped : Bool) (a : A) (read : Result A TextKind) (condition : TextKind → Bool) → fault_of read ≡ first_kind condition word_kinds
    → fault_of (cond long (Err LineTooLong) (cond skipped (Ok a) read)) ≡ first_kind (in_parts long skipped condition) all_kinds
line_plain true skipped a read condition e = refl
line_plain false true a read condition e = refl
line_plain false false a read condition e = e

-- what is so of the words of a line is so of the line
pub line_kinds : {A : Type 0} (item : A → List Word → Result A TextKind) (condition : List Word → TextKind → Bool) (a : A) (line : List ℕ) → fault_of (item a (words_of line)) ≡ first_kind (condition (words_of line)) word_kinds
    → fault_of (after_line item a line) ≡ first_kind (of_line condition line) all_kinds
line_kinds item condition a line e = line_plain (ltb most_line_bytes (length line)) (is_skipped (words_of line)) a (item a (words_of line)) (condition (words_of line)) e

-- ---- graphs

pub graph_line_kinds : GraphLineKinds
graph_line_kinds made line kind =
    exactly_least (after_line graph_item made line) (of_line (graph_condition made) line) (line_kinds graph_item (graph_condition made) made line (graph_kinds made (words_of line))) kind

pub graph_text_kinds : GraphTextKinds
unfolding graph_text
graph_text_kinds text m kind = (
  λ e.
      let refused = lines_refused (after_lines (λ n. graph_item) 1 nothing_read (lines_of text)) (m, kind) e in
      let found = lines_fault_kind (λ n. graph_item) (λ n. IsGraphItem) graph_item_ok graph_item_from 1 nothing_read (lines_of text) m kind refused in
      record { first = found.0; kind_of_line = (graph_line_kinds found.0.before found.0.line kind).0 found.1 },
  λ h. ap (λ read. read >>= λ made. Ok made.1) (fault_from (λ n. graph_item) (λ n. IsGraphItem) graph_item_ok graph_item_from nothing_read (lines_of text) m kind h.first ((graph_line_kinds h.first.before h.first.line kind).1 h.kind_of_line)),
)

-- ---- rules

rule_item_kinds : (n : ℕ) (rules : List RuleLine) (words : List Word) → fault_of (rule_item n rules words) ≡ first_kind (rule_condition rules words) word_kinds
unfolding rule_item rule_line
rule_item_kinds n rules words =
    let form = form_in rule_forms words in
    with_last (not (is_some form)) (has_other_count form words) (some_word is_bad_number form words) (some_word is_bad_name form words) (some_word are_bad_rights form words) (leb most_rules (length rules)) (rule_line n words) (λ (x : RuleLine). rules ++ x ∷ [])
    (same_fault (rule_of_words words) (λ rule. record { line = n; rule = rule }) ∙ rule_kinds words)

pub rule_line_kinds : RuleLineKinds
rule_line_kinds n rules line kind =
    exactly_least (after_line (rule_item n) rules line) (of_line (rule_condition rules) line) (line_kinds (rule_item n) (rule_condition rules) rules line (rule_item_kinds n rules (words_of line))) kind

one_plain : (long : Bool) (read : Result Rule TextKind) (words : List Word) → fault_of read ≡ first_kind (form_condition (form_in rule_forms words) words) word_kinds
    → fault_of (cond long (Err LineTooLong) read) ≡ cond long (Some LineTooLong) (first_kind (form_condition (form_in rule_forms words) words) word_kinds)
one_plain true read words e = refl
one_plain false read words e = e

pub one_rule_kinds : OneRuleKinds
one_rule_kinds line kind =
    let long = ltb most_line_bytes (length line) in
    exactly_least (cond long (Err LineTooLong) (rule_of_words (words_of line))) (one_rule_condition line) (one_plain long (rule_of_words (words_of line)) (words_of line) (rule_kinds (words_of line))) kind

pub rules_text_kinds : RulesTextKinds
unfolding rules_text
rules_text_kinds text m kind = (
  λ e.
      let found = lines_fault_kind rule_item IsRuleItem rule_item_ok rule_item_from 1 [] (lines_of text) m kind e in
      record { first = found.0; kind_of_line = (rule_line_kinds m found.0.before found.0.line kind).0 found.1 },
  λ h. fault_from rule_item IsRuleItem rule_item_ok rule_item_from [] (lines_of text) m kind h.first ((rule_line_kinds m h.first.before h.first.line kind).1 h.kind_of_line),
)

-- ---- scripts

pub script_item_kinds : (n : ℕ) (made : Header × List ScriptLine) (words : List Word) → fault_of (script_item n made words) ≡ first_kind (script_condition made words) word_kinds
unfolding script_item event_item
script_item_kinds n (Nothing, lines) words = header_kinds (codes "seats") most_seats words (λ seats. (Seats seats, lines))
script_item_kinds n (Seats seats, lines) words = header_kinds (codes "cells") most_cells words (λ cells. (Whole seats cells, lines))
script_item_kinds n (Whole seats cells, lines) words =
    let form = event_form seats words in
    same_fault (event_item n seats lines words) (λ more. (Whole seats cells, more))
    ∙ with_last (not (is_some form)) (has_other_count form words) (some_word is_bad_number form words) (some_word is_bad_name form words) (some_word are_bad_rights form words) (leb most_events (length lines)) (event_of_words n seats words) (λ (x : ScriptLine). lines ++ x ∷ []) (event_kinds n seats words)

pub script_line_kinds : ScriptLineKinds
script_line_kinds n made line kind =
    exactly_least (after_line (script_item n) made line) (of_line (script_condition made) line) (line_kinds (script_item n) (script_condition made) made line (script_item_kinds n made (words_of line))) kind

abbrev failed : ℕ × TextKind → Result ScriptOf (ℕ × TextKind)
failed fault = Err fault

same_pair : (x y : ℕ × TextKind) → failed x ≡ failed y → x ≡ y
same_pair x y e = cc

-- what a script with these lines comes to
abbrev ended : List (List ℕ) → Result State (ℕ × TextKind) → Result ScriptOf (ℕ × TextKind)
ended lines read = read >>= λ state. with_header (length lines + 1) state

only_no_header : (end : ℕ) (state : State) (m : ℕ) (kind : TextKind) → with_header end state ≡ failed (m, kind) → kind ≡ NoHeader
only_no_header end (Nothing, lines) m kind e = sym (ap (λ (x : ℕ × TextKind). x.1) (same_pair (end, NoHeader) (m, kind) e))
only_no_header end (Seats seats, lines) m kind e = sym (ap (λ (x : ℕ × TextKind). x.1) (same_pair (end, NoHeader) (m, kind) e))
only_no_header end (Whole seats cells, lines) m kind e = absurd cc

script_fault : (text : List ℕ) (m : ℕ) (kind : TextKind) → script_text text ≡ Err (m, kind) → IsFaultOf IsScriptItem script_condition start (lines_of text) m kind ⊎ ((kind ≡ NoHeader) × EndsEarly (lines_of text) m)
unfolding script_text
script_fault text m kind e =
    elim (cases_result (after_lines script_item 1 start (lines_of text))) [
      | inl p ↦ (
          let end : with_header (length (lines_of text) + 1) p.0 ≡ failed (m, kind) = sym (ap (ended (lines_of text)) p.1) ∙ e in
          inr (
            only_no_header (length (lines_of text) + 1) p.0 m kind end,
            partial text p.0 m kind (lines_ok script_item IsScriptItem item_is item_back 1 start (lines_of text) p.0 p.1) end,
          ))
      | inr p ↦ (
          let same : p.0 ≡ (m, kind) = same_pair p.0 (m, kind) (sym (ap (ended (lines_of text)) p.1) ∙ e) in
          let found = lines_fault_kind script_item IsScriptItem item_is item_back 1 start (lines_of text) m kind (p.1 ∙ ap Err same) in
          inl (record { first = found.0; kind_of_line = (script_line_kinds m found.0.before found.0.line kind).0 found.1 }))
    ]

ends_early : (end : ℕ) (header : Header) (events : List ScriptLine) → IsPartial header → with_header end (header, events) ≡ failed (end, NoHeader)
ends_early end Nothing events h = refl
ends_early end (Seats seats) events h = refl
ends_early end (Whole seats cells) events h = absurd h

pub no_header_is_ends_early : NoHeaderIsEndsEarly
unfolding script_text
no_header_is_ends_early text m = (
  λ e. elim (script_fault text m NoHeader e) [
    | inl f ↦ absurd (false≢true (and_parts (not (is_skipped (words_of f.first.line))) false f.kind_of_line.holds).1)
    | inr h ↦ h.1
  ],
  λ h.
      let lines = lines_of text in
      ap (ended lines) (lines_from script_item IsScriptItem item_is item_back 1 start lines (h.header, h.events) h.read)
      ∙ (ends_early (length lines + 1) h.header h.events h.partial ∙ ap (λ (n : ℕ). failed (n, NoHeader)) (sym h.number)),
)

pub script_text_kinds : ScriptTextKinds
unfolding script_text
script_text_kinds text m kind = (
  script_fault text m kind,
  λ h. elim h [
    | inl f ↦ ap (ended (lines_of text)) (fault_from script_item IsScriptItem item_is item_back start (lines_of text) m kind f.first ((script_line_kinds m f.first.before f.first.line kind).1 f.kind_of_line))
    | inr (none, early) ↦ (no_header_is_ends_early text m).1 early ∙ ap (λ (k : TextKind). failed (m, k)) (sym none)
  ],
)
