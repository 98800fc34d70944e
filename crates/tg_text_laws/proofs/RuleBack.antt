-- The line of a rule is read as the rule.
use Rattle.std.proofs.Common.{◌≡◌, ◌+◌, ◌≤◌, false, nat_lt, if◌then◌else◌, [], ◌∷◌, length, codes, Ok, Err, refl, ap, ◌∙◌, arith}
use Rattle.std.specs.List.{AllByRecursion}
use Rattle.std.proofs.lemmas.Bool.Decides.{nat_tests}
use Rattle.std.proofs.lemmas.List.{length-append}
use Rattle.tg_names.specs.declared.right_sets.Rights.{Rights}
use Rattle.tg_graph.specs.declared.rules.Rule.{Rule}
use Rattle.tg_graph.specs.declared.rules.Rule.TheVariants.{Take, Grant, Create, Remove}
use Rattle.tg_names.specs.Sets.{IsNamed}
use Rattle.tg_graph.specs.RuleWords.{IsRule}
use Rattle.tg_words.specs.declared.faults.TextKind.TheVariants.{BadRights, LineTooLong}
use Rattle.tg_words.specs.Lines.{words_of}
use Rattle.tg_words.specs.Words.{Word, rights_at, value_or}
use Rattle.tg_text.specs.RuleText.{rule_of_words, rule_of_line}
use Rattle.tg_words.specs.Spelling.{rule_text, rule_words, rights_text, spaced}
use Rattle.tg_text.proofs.PlainWords.{IsPlainWord, word_from_test, name_word, words-spaced}
use Rattle.tg_text_laws.proofs.PlainRights.{rights_word, length-rights}
use Rattle.tg_text_laws.proofs.RightsBack.{rights-back}
use Rattle.tg_words.specs.Limits.{most_line_bytes}
use Rattle.tg_text.proofs.PlainRules.{words_with-read, length-more}

pub rights_at-is : (s : Rights) → IsNamed s → rights_at (rights_text s) ≡ Ok s
rights_at-is s n = ap (value_or BadRights) (rights-back s n)

pub words-back : (rule : Rule) → IsRule rule → rule_of_words (rule_words rule) ≡ Ok rule
words-back (Take x y z s) i = words_with-read (Take x y z s) (rights_text s) i (rights_at-is s i.3)
words-back (Grant x y z s) i = words_with-read (Grant x y z s) (rights_text s) i (rights_at-is s i.3)
words-back (Create x m s) i = words_with-read (Create x m s) (rights_text s) i (rights_at-is s i.2)
words-back (Remove x y s) i = words_with-read (Remove x y s) (rights_text s) i (rights_at-is s i.2)

pub plain-rule : (rule : Rule) → IsRule rule → AllByRecursion IsPlainWord (rule_words rule)
plain-rule (Take x y z s) (p, q, r, n) = (word_from_test (codes "take") refl refl, (name_word x p, (name_word y q, (name_word z r, (rights_word s, tt)))))
plain-rule (Grant x y z s) (p, q, r, n) = (word_from_test (codes "grant") refl refl, (name_word x p, (name_word y q, (name_word z r, (rights_word s, tt)))))
plain-rule (Create x m s) (p, q, n) = (word_from_test (codes "create") refl refl, (name_word x p, (name_word m q, (rights_word s, tt))))
plain-rule (Remove x y s) (p, q, n) = (word_from_test (codes "remove") refl refl, (name_word x p, (name_word y q, (rights_word s, tt))))

pub length-two : (word x : Word) (s : Rights) → length (spaced (word ∷ x ∷ rights_text s ∷ [])) ≤ length word + length x + 9
length-two word x s = omega (arith, length-append word (32 ∷ spaced (x ∷ rights_text s ∷ [])), length-append x (32 ∷ rights_text s), length-rights s)

pub short-rule : (rule : Rule) → IsRule rule → length (rule_text rule) ≤ most_line_bytes
short-rule (Take x y z s) (p, q, r, n) =
    omega (arith, length-more (codes "take") x (y ∷ z ∷ rights_text s ∷ []), length-more x y (z ∷ rights_text s ∷ []), length-two y z s, p.within, q.within, r.within)
short-rule (Grant x y z s) (p, q, r, n) =
    omega (arith, length-more (codes "grant") x (y ∷ z ∷ rights_text s ∷ []), length-more x y (z ∷ rights_text s ∷ []), length-two y z s, p.within, q.within, r.within)
short-rule (Create x m s) (p, q, n) = omega (arith, length-more (codes "create") x (m ∷ rights_text s ∷ []), length-two x m s, p.within, q.within)
short-rule (Remove x y s) (p, q, n) = omega (arith, length-more (codes "remove") x (y ∷ rights_text s ∷ []), length-two x y s, p.within, q.within)

pub rule-back : (rule : Rule) → IsRule rule → rule_of_line (rule_text rule) ≡ Ok rule
rule-back rule p =
    let short = short-rule rule p in
    let test : nat_lt most_line_bytes (length (rule_text rule)) ≡ false = grind (arith, nat_tests) in
    ap (λ b. if b then Err LineTooLong else rule_of_words (words_of (rule_text rule))) test
    ∙ ap rule_of_words (words-spaced (rule_words rule) (plain-rule rule p)) ∙ words-back rule p
