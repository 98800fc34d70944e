-- Lines of rules are read as the rules.
use Rattle.std.proofs.Common.{◌≡◌, ℕ, ◌+◌, ◌<◌, ◌≤◌, true, false, nat_le, nat_lt, if◌then◌else◌, List, [], ◌∷◌, ◌++◌, length, Ok, Err, refl, sym, ap, ◌∙◌, arith}
use Rattle.std.specs.List.{AllByRecursion}
use Rattle.std.proofs.lemmas.Bool.Decides.{nat_tests}
use Rattle.std.proofs.lemmas.List.{append-nil, append_assoc, length-append}
use Rattle.tg_graph.specs.declared.rules.Rule.{Rule}
use Rattle.tg_graph.specs.declared.rules.Rule.TheVariants.{Take, Grant, Create, Remove}
use Rattle.tg_graph.specs.RuleWords.{IsRule}
use Rattle.tg_words.specs.declared.faults.TextKind.TheVariants.{LineTooLong, TooMany}
use Rattle.tg_text.specs.declared.rule_text.RuleLine.{RuleLine}
use Rattle.tg_words.specs.Lines.{lines_of, words_of, is_skipped}
use Rattle.tg_words.specs.Reading.{◌>>=◌, on_line, after_lines, with_item}
use Rattle.tg_text.specs.RuleText.{rule_line, rule_item, rules_text}
use Rattle.tg_words.specs.Words.{Word}
use Rattle.tg_words.specs.Spelling.{spaced, rule_words, line_of}
use Rattle.tg_text.specs.RoundTrips.{lines_of_rules, on_lines, ListsAreReadAsWritten}
use Rattle.tg_text.proofs.PlainWords.{IsPlainWord, words-spaced, lines-spaced, line-is}
use Rattle.tg_text_laws.proofs.RuleBack.{words-back, plain-rule, short-rule}
use Rattle.tg_words.specs.Limits.{most_line_bytes, most_rules}

not_skipped : (rule : Rule) → is_skipped (rule_words rule) ≡ false
not_skipped (Take x y z s) = refl
not_skipped (Grant x y z s) = refl
not_skipped (Create x n s) = refl
not_skipped (Remove x y s) = refl

item-is : (n : ℕ) (made : List RuleLine) (rule : Rule) → IsRule rule → length made < most_rules → rule_item n made (rule_words rule) ≡ Ok (made ++ record { line = n; rule = rule } ∷ [])
unfolding rule_item rule_line
item-is n made rule p l =
    let room : nat_le most_rules (length made) ≡ false = grind (arith, nat_tests) in
    ap (λ r. with_item most_rules made (r >>= λ rule. Ok (record { line = n; rule = rule }))) (words-back rule p)
    ∙ ap (λ b. if b then Err TooMany else Ok (made ++ record { line = n; rule = rule } ∷ [])) room

-- the lines of rules, after those that made the first ones
pub rules-read : (n : ℕ) (made : List RuleLine) (rules : List Rule) → AllByRecursion IsRule rules → length made + length rules ≤ most_rules
    → after_lines rule_item n made (lines_of (lines_of_rules rules)) ≡ Ok (made ++ on_lines n rules)
rules-read n made [] a l = ap Ok (sym (append-nil made))
rules-read n made (rule ∷ rules) a l =
    let words = rule_words rule in
    let next : List RuleLine = record { line = n; rule = rule } ∷ [] in
    let few : length (made ++ next) + length rules ≤ most_rules = omega (arith, l, length-append made next) in
    let room : length made < most_rules = omega (arith, l) in
    ap (after_lines rule_item n made) (lines-spaced words (lines_of_rules rules) (plain-rule rule a.0))
    ∙ ap (λ r. on_line n r >>= λ b. after_lines rule_item (n + 1) b (lines_of (lines_of_rules rules))) (line-is (rule_item n) made words (plain-rule rule a.0) (short-rule rule a.0) (not_skipped rule) ∙ item-is n made rule a.0 room)
    ∙ rules-read (n + 1) (made ++ next) rules a.1 few
    ∙ ap Ok (append_assoc made next (on_lines (n + 1) rules))

-- a line that is skipped changes nothing
pub skipped-line : (n : ℕ) (made : List RuleLine) (words : List Word) (rest : List ℕ) → AllByRecursion IsPlainWord words → length (spaced words) ≤ most_line_bytes → is_skipped words ≡ true
    → after_lines rule_item n made (lines_of (line_of words ++ rest)) ≡ after_lines rule_item (n + 1) made (lines_of rest)
skipped-line n made words rest p l s =
    let short : nat_lt most_line_bytes (length (spaced words)) ≡ false = grind (arith, nat_tests) in
    let line = spaced words in
    let item = rule_item n made in
    ap (after_lines rule_item n made) (lines-spaced words rest p)
    ∙ ap (λ b. on_line n (if b then Err LineTooLong else (if is_skipped (words_of line) then Ok made else item (words_of line))) >>= λ b. after_lines rule_item (n + 1) b (lines_of rest)) short
    ∙ ap (λ ws. on_line n (if is_skipped ws then Ok made else item ws) >>= λ b. after_lines rule_item (n + 1) b (lines_of rest)) (words-spaced words p)
    ∙ ap (λ b. on_line n (if b then Ok made else item words) >>= λ b. after_lines rule_item (n + 1) b (lines_of rest)) s

pub lists-back : ListsAreReadAsWritten
unfolding rules_text
lists-back rules a l = rules-read 1 [] rules a (omega (arith, l))
