-- The line of a rule that is written with single spaces, at the front of a text.
use Rattle.std.proofs.Common.{◌≡◌, ℕ, ◌+◌, ◌≤◌, false, nat_le, if◌then◌else◌, List, [], ◌∷◌, ◌++◌, length, codes, Some, Ok, Err, refl, ap, ◌∙◌, arith}
use Rattle.std.specs.List.{AllByRecursion}
use Rattle.std.proofs.lemmas.List.{length-append}
use Rattle.tg_graph.specs.declared.rules.Rule.{Rule}
use Rattle.tg_graph.specs.declared.rules.Rule.TheVariants.{Take, Grant, Create, Remove}
use Rattle.tg_names.specs.Letters.{set_of_letters}
use Rattle.tg_graph.specs.Rules.{rights_of}
use Rattle.tg_graph.specs.RuleWords.{IsRule}
use Rattle.tg_words.specs.declared.faults.TextKind.TheVariants.{BadRights, TooMany}
use Rattle.tg_text.specs.declared.rule_text.RuleLine.{RuleLine}
use Rattle.tg_words.specs.Limits.{most_line_bytes, most_rules}
use Rattle.tg_words.specs.Lines.{lines_of, is_skipped}
use Rattle.tg_words.specs.Reading.{◌>>=◌, MakesFirst}
use Rattle.tg_text.specs.RuleText.{rule_line, counted_item, two_names, three_names, rule_of_words}
use Rattle.tg_words.specs.Spelling.{spaced, line_of, words_with}
use Rattle.tg_words.specs.Words.{Word, value_or, name_at, rights_at}
use Rattle.tg_text.proofs.PlainWords.{IsPlainWord, word_from_test, name_word, lines-spaced, line-is}
use Rattle.tg_text.proofs.PlainEdges.{set_word}
use Rattle.tg_names.specs.declared.right_sets.Rights.{Rights}
use Rattle.tg_names.specs.Names.{Name, IsName}
use Rattle.tg_text.proofs.Steps.{name_from}

two_names-is : (x y : Name) (letters : Word) (s : Rights) → IsName x → IsName y → rights_at letters ≡ Ok s → two_names (x ∷ y ∷ letters ∷ []) ≡ Ok (x, y, s)
unfolding two_names
two_names-is x y letters s p q e =
    ap (λ r. r >>= λ x. name_at y >>= λ y. rights_at letters >>= λ s. Ok (x, y, s)) (name_from x p)
    ∙ ap (λ r. r >>= λ y. rights_at letters >>= λ s. Ok (x, y, s)) (name_from y q)
    ∙ ap (λ r. r >>= λ s. Ok (x, y, s)) e

three_names-is : (x y z : Name) (letters : Word) (s : Rights) → IsName x → IsName y → IsName z → rights_at letters ≡ Ok s → three_names (x ∷ y ∷ z ∷ letters ∷ []) ≡ Ok (x, y, z, s)
unfolding three_names
three_names-is x y z letters s p q r e =
    ap (λ r. r >>= λ x. name_at y >>= λ y. name_at z >>= λ z. rights_at letters >>= λ s. Ok (x, y, z, s)) (name_from x p)
    ∙ ap (λ r. r >>= λ y. name_at z >>= λ z. rights_at letters >>= λ s. Ok (x, y, z, s)) (name_from y q)
    ∙ ap (λ r. r >>= λ z. rights_at letters >>= λ s. Ok (x, y, z, s)) (name_from z r)
    ∙ ap (λ r. r >>= λ s. Ok (x, y, z, s)) e

-- the words of a rule, its letters in any order
pub words_with-read : (rule : Rule) (letters : Word) → IsRule rule → rights_at letters ≡ Ok (rights_of rule) → rule_of_words (words_with rule letters) ≡ Ok rule
unfolding rule_of_words
words_with-read (Take x y z s) letters (p, q, r, n) e = ap (λ w. w >>= λ a. Ok (Take a.0 a.1 a.2 a.3)) (three_names-is x y z letters s p q r e)
words_with-read (Grant x y z s) letters (p, q, r, n) e = ap (λ w. w >>= λ a. Ok (Grant a.0 a.1 a.2 a.3)) (three_names-is x y z letters s p q r e)
words_with-read (Create x m s) letters (p, q, n) e = ap (λ w. w >>= λ a. Ok (Create a.0 a.1 a.2)) (two_names-is x m letters s p q e)
words_with-read (Remove x y s) letters (p, q, n) e = ap (λ w. w >>= λ a. Ok (Remove a.0 a.1 a.2)) (two_names-is x y letters s p q e)

pub length-more : (word : Word) (next : Word) (words : List Word) → length (spaced (word ∷ next ∷ words)) ≡ length word + 1 + length (spaced (next ∷ words))
length-more word next words = omega (arith, length-append word (32 ∷ spaced (next ∷ words)))

plain-words : (rule : Rule) (letters : Word) → IsRule rule → IsPlainWord letters → AllByRecursion IsPlainWord (words_with rule letters)
plain-words (Take x y z s) letters (p, q, r, n) l = (word_from_test (codes "take") refl refl, (name_word x p, (name_word y q, (name_word z r, (l, tt)))))
plain-words (Grant x y z s) letters (p, q, r, n) l = (word_from_test (codes "grant") refl refl, (name_word x p, (name_word y q, (name_word z r, (l, tt)))))
plain-words (Create x m s) letters (p, q, n) l = (word_from_test (codes "create") refl refl, (name_word x p, (name_word m q, (l, tt))))
plain-words (Remove x y s) letters (p, q, n) l = (word_from_test (codes "remove") refl refl, (name_word x p, (name_word y q, (l, tt))))

short : (rule : Rule) (letters : Word) → IsRule rule → length letters ≤ 7 → length (spaced (words_with rule letters)) ≤ most_line_bytes
short (Take x y z s) letters (p, q, r, n) few =
    omega (arith, few, length-more (codes "take") x (y ∷ z ∷ letters ∷ []), length-more x y (z ∷ letters ∷ []), length-more y z (letters ∷ []), length-more z letters [], p.within, q.within, r.within)
short (Grant x y z s) letters (p, q, r, n) few =
    omega (arith, few, length-more (codes "grant") x (y ∷ z ∷ letters ∷ []), length-more x y (z ∷ letters ∷ []), length-more y z (letters ∷ []), length-more z letters [], p.within, q.within, r.within)
short (Create x m s) letters (p, q, n) few = omega (arith, few, length-more (codes "create") x (m ∷ letters ∷ []), length-more x m (letters ∷ []), length-more m letters [], p.within, q.within)
short (Remove x y s) letters (p, q, n) few = omega (arith, few, length-more (codes "remove") x (y ∷ letters ∷ []), length-more x y (letters ∷ []), length-more y letters [], p.within, q.within)

not_skipped : (rule : Rule) (letters : Word) → is_skipped (words_with rule letters) ≡ false
not_skipped (Take x y z s) letters = refl
not_skipped (Grant x y z s) letters = refl
not_skipped (Create x m s) letters = refl
not_skipped (Remove x y s) letters = refl

module _ {A : Type 0} (with_rule : A → RuleLine → A) (n : ℕ) (made : A) (count : ℕ) (rule : Rule) (letters : Word) (i : IsRule rule) (e : set_of_letters letters ≡ Some (rights_of rule)) (few : length letters ≤ 7) (room : nat_le most_rules count ≡ false) where
  abbrev words : List Word
  words = words_with rule letters

  abbrev more : A × ℕ
  more = (with_rule made (record { line = n; rule = rule }), count + 1)

  plain_words : AllByRecursion IsPlainWord words
  plain_words = plain-words rule letters i (set_word letters (rights_of rule) e)

  line-made : rule_line n words ≡ Ok (record { line = n; rule = rule })
  unfolding rule_line
  line-made = ap (λ r. r >>= λ rule. Ok (record { line = n; rule = rule })) (words_with-read rule letters i (ap (value_or BadRights) e))

  item-made : counted_item with_rule n (made, count) words ≡ Ok more
  unfolding counted_item
  item-made =
      ap (λ r. r >>= λ one. if nat_le most_rules count then Err TooMany else Ok (with_rule made one, count + 1)) line-made
      ∙ ap (λ b. if b then Err TooMany else Ok more) room

  pub rule_first : (text rest : List ℕ) → text ≡ line_of words ++ rest → MakesFirst (counted_item with_rule n) (made, count) text more rest
  rule_first text rest t = record {
    line = spaced words;
    cut = ap lines_of t ∙ lines-spaced words rest plain_words;
    shorter = omega (arith, ap length t, length-append (line_of words) rest, length-append (spaced words) (10 ∷ []));
    made = line-is (counted_item with_rule n) (made, count) words plain_words (short rule letters i few) (not_skipped rule letters) ∙ item-made;
  }
