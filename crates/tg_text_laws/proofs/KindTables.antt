-- The kinds of fault that each text has.
use Rattle.std.proofs.Common.{◌≡◌, refl, sym, ◌∙◌, ◌&&◌, subst, inl, inr, ℕ, Bool, false, not, List, [], ◌∷◌, Option, None, Some, arith, IfSome}
use Rattle.std.specs.Prelude.{Contains, IsTrue}
use Rattle.std.specs.List.{AllByRecursion}
use Rattle.std.proofs.lemmas.Bool.{false≢true, and_parts}
use Rattle.tg_words.specs.declared.faults.TextKind.{TextKind}
use Rattle.tg_words.specs.declared.faults.TextKind.TheVariants.{LineTooLong, BadWord, WordCount, BadNumber, BadName, BadRights, DuplicateVertex, TooManyVertices, UnknownVertex, UnknownGroup, DuplicateEdge, TooMany, NoHeader, NoClaim}
use Rattle.tg_text.specs.declared.rule_text.RuleLine.{RuleLine}
use Rattle.tg_text.specs.declared.script_text.ScriptLine.{ScriptLine}
use Rattle.tg_text.specs.declared.script_text.Header.{Header}
use Rattle.tg_words.specs.Lines.{words_of, is_skipped}
use Rattle.tg_words.specs.Words.{Word, is_word}
use Rattle.tg_text.specs.GraphText.{GraphSoFar}
use Rattle.tg_text_laws.specs.Forms.{Form, form_in, rule_forms, some_word, is_bad_number}
use Rattle.tg_text_laws.specs.FaultKinds.{of_line, graph_condition, rule_condition, one_rule_condition, script_condition, graph_kinds, one_rule_kinds, rules_kinds, script_kinds, GraphHasTheseKinds, OneRuleHasTheseKinds, RulesHaveTheseKinds, ScriptHasTheseKinds}
use Rattle.tg_text_laws.proofs.FormKinds.{Numberless, no_bad_number, found_numberless, two_numberless, three_numberless}
use Rattle.tg_text_laws.proofs.KindLaws.{graph_text_kinds, rules_text_kinds, script_text_kinds}
use Rattle.tg_text_laws.proofs.KindLaws as laws

-- ---- forms without a place for a number

no_number : (form : Option Form) (words : List Word) → IfSome form Numberless → some_word is_bad_number form words ≡ false
no_number None words h = refl
no_number (Some form) words h = no_bad_number form h words

no_number_among : (forms : List (Word × Form)) → AllByRecursion (λ (entry : Word × Form). Numberless entry.1) forms → (words : List Word) → some_word is_bad_number (form_in forms words) words ≡ false
no_number_among forms h [] = refl
no_number_among forms h (word ∷ words) = no_number (form_in forms (word ∷ words)) (word ∷ words) (found_numberless (is_word word) forms h)

rules_numberless : AllByRecursion (λ (entry : Word × Form). Numberless entry.1) rule_forms
rules_numberless = (three_numberless, (three_numberless, (two_numberless, (two_numberless, tt))))

-- ---- conditions that never hold

never : (skipped condition : Bool) → condition ≡ false → IsTrue (not skipped && condition) → ⊥
never skipped condition none h = false≢true (sym none ∙ (and_parts (not skipped) condition h).1)

of_graph : (made : GraphSoFar) (line : List ℕ) (kind : TextKind) → IsTrue (of_line (graph_condition made) line kind) → Contains graph_kinds kind
of_graph made line LineTooLong h = (0, omega arith, refl)
of_graph made line BadWord h = (1, omega arith, refl)
of_graph made line WordCount h = (2, omega arith, refl)
of_graph made line BadNumber h = (3, omega arith, refl)
of_graph made line BadName h = (4, omega arith, refl)
of_graph made line BadRights h = (5, omega arith, refl)
of_graph made line DuplicateVertex h = (6, omega arith, refl)
of_graph made line TooManyVertices h = (7, omega arith, refl)
of_graph made line UnknownVertex h = (8, omega arith, refl)
of_graph made line UnknownGroup h = absurd (never (is_skipped (words_of line)) false refl h)
of_graph made line DuplicateEdge h = (9, omega arith, refl)
of_graph made line TooMany h = absurd (never (is_skipped (words_of line)) false refl h)
of_graph made line NoHeader h = absurd (never (is_skipped (words_of line)) false refl h)
of_graph made line NoClaim h = absurd (never (is_skipped (words_of line)) false refl h)

pub graph_has_these_kinds : GraphHasTheseKinds
graph_has_these_kinds text m kind e = let f = (graph_text_kinds text m kind).0 e in of_graph f.first.before f.first.line kind f.kind_of_line.holds

of_one_rule : (line : List ℕ) (kind : TextKind) → IsTrue (one_rule_condition line kind) → Contains one_rule_kinds kind
of_one_rule line LineTooLong h = (0, omega arith, refl)
of_one_rule line BadWord h = (1, omega arith, refl)
of_one_rule line WordCount h = (2, omega arith, refl)
of_one_rule line BadNumber h = absurd (false≢true (sym (no_number_among rule_forms rules_numberless (words_of line)) ∙ h))
of_one_rule line BadName h = (3, omega arith, refl)
of_one_rule line BadRights h = (4, omega arith, refl)
of_one_rule line DuplicateVertex h = absurd (false≢true h)
of_one_rule line TooManyVertices h = absurd (false≢true h)
of_one_rule line UnknownVertex h = absurd (false≢true h)
of_one_rule line UnknownGroup h = absurd (false≢true h)
of_one_rule line DuplicateEdge h = absurd (false≢true h)
of_one_rule line TooMany h = absurd (false≢true h)
of_one_rule line NoHeader h = absurd (false≢true h)
of_one_rule line NoClaim h = absurd (false≢true h)

pub one_rule_has_these_kinds : OneRuleHasTheseKinds
one_rule_has_these_kinds line kind e = of_one_rule line kind ((laws.one_rule_kinds line kind).0 e).holds

of_rules : (rules : List RuleLine) (line : List ℕ) (kind : TextKind) → IsTrue (of_line (rule_condition rules) line kind) → Contains rules_kinds kind
of_rules rules line LineTooLong h = (0, omega arith, refl)
of_rules rules line BadWord h = (1, omega arith, refl)
of_rules rules line WordCount h = (2, omega arith, refl)
of_rules rules line BadNumber h = absurd (never (is_skipped (words_of line)) (some_word is_bad_number (form_in rule_forms (words_of line)) (words_of line)) (no_number_among rule_forms rules_numberless (words_of line)) h)
of_rules rules line BadName h = (3, omega arith, refl)
of_rules rules line BadRights h = (4, omega arith, refl)
of_rules rules line DuplicateVertex h = absurd (never (is_skipped (words_of line)) false refl h)
of_rules rules line TooManyVertices h = absurd (never (is_skipped (words_of line)) false refl h)
of_rules rules line UnknownVertex h = absurd (never (is_skipped (words_of line)) false refl h)
of_rules rules line UnknownGroup h = absurd (never (is_skipped (words_of line)) false refl h)
of_rules rules line DuplicateEdge h = absurd (never (is_skipped (words_of line)) false refl h)
of_rules rules line TooMany h = (5, omega arith, refl)
of_rules rules line NoHeader h = absurd (never (is_skipped (words_of line)) false refl h)
of_rules rules line NoClaim h = absurd (never (is_skipped (words_of line)) false refl h)

pub rules_have_these_kinds : RulesHaveTheseKinds
rules_have_these_kinds text m kind e = let f = (rules_text_kinds text m kind).0 e in of_rules f.first.before f.first.line kind f.kind_of_line.holds

of_script : (made : Header × List ScriptLine) (line : List ℕ) (kind : TextKind) → IsTrue (of_line (script_condition made) line kind) → Contains script_kinds kind
of_script made line LineTooLong h = (0, omega arith, refl)
of_script made line BadWord h = (1, omega arith, refl)
of_script made line WordCount h = (2, omega arith, refl)
of_script made line BadNumber h = (3, omega arith, refl)
of_script made line BadName h = (4, omega arith, refl)
of_script made line BadRights h = (5, omega arith, refl)
of_script made line DuplicateVertex h = absurd (never (is_skipped (words_of line)) false refl h)
of_script made line TooManyVertices h = absurd (never (is_skipped (words_of line)) false refl h)
of_script made line UnknownVertex h = absurd (never (is_skipped (words_of line)) false refl h)
of_script made line UnknownGroup h = absurd (never (is_skipped (words_of line)) false refl h)
of_script made line DuplicateEdge h = absurd (never (is_skipped (words_of line)) false refl h)
of_script made line TooMany h = (6, omega arith, refl)
of_script made line NoHeader h = (7, omega arith, refl)
of_script made line NoClaim h = absurd (never (is_skipped (words_of line)) false refl h)

early : (kind : TextKind) → kind ≡ NoHeader → Contains script_kinds kind
early kind e = subst (Contains script_kinds) (sym e) (7, omega arith, refl)

pub script_has_these_kinds : ScriptHasTheseKinds
script_has_these_kinds text m kind e =
    elim ((script_text_kinds text m kind).0 e) [
      | inl f ↦ of_script f.first.before f.first.line kind f.kind_of_line.holds
      | inr h ↦ early kind h.0
    ]
