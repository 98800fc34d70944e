-- Rules that are given to a sink as they are read, and those that are listed first.
use Rattle.std.proofs.Common.{◌≡◌, ℕ, ◌+◌, Bool, true, false, nat_le, if◌then◌else◌, List, [], ◌∷◌, ◌++◌, length, length-append, Result, Ok, Err, refl, sym, ap, ◌∙◌, append_assoc}
use Rattle.std.proofs.lemmas.List.{append-nil}
use Rattle.std.specs.Prelude.{nat_lt}
use Rattle.std.specs.List.{fold}
use Rattle.std.proofs.lemmas.List.Sums.{fold-append}
use Rattle.tg_words.specs.declared.faults.TextKind.{TextKind}
use Rattle.tg_words.specs.declared.faults.TextKind.TheVariants.{LineTooLong, TooMany}
use Rattle.tg_words.specs.declared.faults.TextFault.{TextFault}
use Rattle.tg_words.specs.declared.faults.TextFault.TheVariants.{At, Memory}
use Rattle.tg_text.specs.declared.rule_text.RuleLine.{RuleLine}
use Rattle.tg_words.specs.Limits.{most_line_bytes, most_rules}
use Rattle.tg_words.specs.Lines.{lines_of, words_of, is_skipped}
use Rattle.tg_words.specs.Reading.{◌>>=◌, on_line, after_line, after_lines, with_item, MakesAll, Reads}
use Rattle.tg_text.specs.RuleText.{rule_line, rule_item, counted_item, rules_text, rules_make}
use Rattle.tg_words.specs.Words.{Word}

module _ {A : Type 0} (with_rule : A → RuleLine → A) (start : A) where
  -- what rules make, and how many they are
  abbrev so_far : List RuleLine → A × ℕ
  so_far rules = (fold with_rule start rules, length rules)

  one-more : (rules : List RuleLine) (rule : RuleLine) (full : Bool)
      → (if full then Err TooMany else Ok (with_rule (fold with_rule start rules) rule, length rules + 1)) ≡ ((if full then Err TooMany else Ok (rules ++ rule ∷ [])) >>= λ more. Ok (so_far more))
  one-more rules rule true = refl
  one-more rules rule false =
      let long : length rules + 1 ≡ length (rules ++ rule ∷ []) = sym (length-append rules (rule ∷ [])) in
      λ i. Ok (sym (fold-append with_rule start rules (rule ∷ [])) i, long i)

  item-counted : (n : ℕ) (rules : List RuleLine) (words : List Word) → counted_item with_rule n (so_far rules) words ≡ (rule_item n rules words >>= λ more. Ok (so_far more))
  unfolding counted_item rule_item
  item-counted n rules words = by (rule_line n words)
    where
      by : (r : Result RuleLine TextKind) → (r >>= λ rule. if nat_le most_rules (length rules) then Err TooMany else Ok (with_rule (fold with_rule start rules) rule, length rules + 1)) ≡ (with_item most_rules rules r >>= λ more. Ok (so_far more))
      by (Ok rule) = one-more rules rule (nat_le most_rules (length rules))
      by (Err kind) = refl

  line-counted : (n : ℕ) (rules : List RuleLine) (line : List ℕ) → after_line (counted_item with_rule n) (so_far rules) line ≡ (after_line (rule_item n) rules line >>= λ more. Ok (so_far more))
  line-counted n rules line = by (nat_lt most_line_bytes (length line)) (is_skipped (words_of line))
    where
      by : (long skipped : Bool) → (if long then Err LineTooLong else (if skipped then Ok (so_far rules) else counted_item with_rule n (so_far rules) (words_of line))) ≡ ((if long then Err LineTooLong else (if skipped then Ok rules else rule_item n rules (words_of line))) >>= λ more. Ok (so_far more))
      by true skipped = refl
      by false true = refl
      by false false = item-counted n rules (words_of line)

  lines-counted : (lines : List (List ℕ)) (n : ℕ) (rules : List RuleLine) → after_lines (counted_item with_rule) n (so_far rules) lines ≡ (after_lines rule_item n rules lines >>= λ more. Ok (so_far more))
  lines-counted [] n rules = refl
  lines-counted (line ∷ lines) n rules =
      ap (λ r. on_line n r >>= λ b. after_lines (counted_item with_rule) (n + 1) b lines) (line-counted n rules line)
      ∙ by (λ more. lines-counted lines (n + 1) more) (after_line (rule_item n) rules line)
    where
      by : ((more : List RuleLine) → after_lines (counted_item with_rule) (n + 1) (so_far more) lines ≡ (after_lines rule_item (n + 1) more lines >>= λ all. Ok (so_far all)))
          → (r : Result (List RuleLine) TextKind) → (on_line n (r >>= λ more. Ok (so_far more)) >>= λ b. after_lines (counted_item with_rule) (n + 1) b lines) ≡ ((on_line n r >>= λ b. after_lines rule_item (n + 1) b lines) >>= λ all. Ok (so_far all))
      by later (Ok more) = later more
      by later (Err kind) = refl

  pub rules-made : (text : List ℕ) → rules_make with_rule start text ≡ (after_lines (counted_item with_rule) 1 (start, 0) (lines_of text) >>= λ made. Ok made.0)
  unfolding rules_text
  rules-made text = by (after_lines rule_item 1 [] (lines_of text)) ∙ ap (λ r. r >>= λ made. Ok made.0) (sym (lines-counted (lines_of text) 1 []))
    where
      by : (r : Result (List RuleLine) (ℕ × TextKind)) → (r >>= λ rules. Ok (fold with_rule start rules)) ≡ ((r >>= λ more. Ok (so_far more)) >>= λ made. Ok made.0)
      by (Ok rules) = refl
      by (Err fault) = refl

  pub fault-read : {X : Type 0} (view : X → A) (text : List ℕ) (count : ℕ) (fault : TextFault) (made : A × ℕ) → MakesAll (after_lines (counted_item with_rule) 1 (start, 0) (lines_of text)) count (Err fault) made → Reads view (Err fault) (rules_make with_rule start text)
  fault-read view text count (At line kind) made h = rules-made text ∙ ap (λ r. r >>= λ all. Ok all.0) h
  fault-read view text count Memory made h = tt

appended : (before rules : List RuleLine) → fold (λ rs rule. rs ++ rule ∷ []) before rules ≡ before ++ rules
appended before [] = sym (append-nil before)
appended before (rule ∷ rules) = appended (before ++ rule ∷ []) rules ∙ append_assoc before (rule ∷ []) rules

-- rules that are put into a list are those of the text
pub rules-listed : (text : List ℕ) → rules_make (λ rules rule. rules ++ rule ∷ []) [] text ≡ rules_text text
rules-listed text = by (rules_text text)
  where
    by : (r : Result (List RuleLine) (ℕ × TextKind)) → (r >>= λ rules. Ok (fold (λ rs rule. rs ++ rule ∷ []) [] rules)) ≡ r
    by (Ok rules) = ap Ok (appended [] rules)
    by (Err fault) = refl
