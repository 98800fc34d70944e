-- The words of a line are its longest runs without blanks.
use Rattle.std.proofs.Common.{◌≡◌, refl, sym, ◌∙◌, ap, subst, inl, inr, ℕ, true, false, not, eqb, ◌||◌, List, [], ◌∷◌, ◌++◌, arith}
use Rattle.std.specs.List.{AllByRecursion}
use Rattle.std.proofs.lemmas.Bool.{eqb-true, or_cases, cases_Bool, false≢true}
use Rattle.tg_words.specs.Lines.{words_of, is_blank, begins_with_word}
use Rattle.tg_words.specs.Words.{Word}
use Rattle.tg_text.specs.WordLaws.{IsBlank, BlanksExactly, GoesNoFurther, AreWordsOf, WordsExactly}
use Rattle.tg_text.proofs.PlainWords.{word_first}

blank_from : (b : ℕ) → IsBlank b → is_blank b ≡ true
blank_from b (inl e) = rw e refl
blank_from b (inr (inl e)) = rw e refl
blank_from b (inr (inr e)) = rw e refl

is_a_blank : (b : ℕ) → is_blank b ≡ true → IsBlank b
is_a_blank b e =
    elim (or_cases (eqb b 32 || eqb b 9) (eqb b 13) e) [
      | inl f ↦ elim (or_cases (eqb b 32) (eqb b 9) f) [ inl g ↦ inl (eqb-true b 32 g) | inr g ↦ inr (inl (eqb-true b 9 g)) ]
      | inr f ↦ inr (inr (eqb-true b 13 f))
    ]

pub blanks_exactly : BlanksExactly
blanks_exactly b = (is_a_blank b, blank_from b)

no_blank_from : (b : ℕ) → (IsBlank b → ⊥) → is_blank b ≡ false
no_blank_from b h = elim (cases_Bool (is_blank b)) [ inl e ↦ absurd (h (is_a_blank b e)) | inr e ↦ e ]

-- ---- a line with these words has no others

goes_no_further : (rest : List ℕ) → GoesNoFurther rest → begins_with_word rest ≡ false
goes_no_further [] h = refl
goes_no_further (b ∷ bs) h = ap not (blank_from b h)

no_words : (gap : List ℕ) → AllByRecursion IsBlank gap → words_of gap ≡ []
no_words [] h = refl
no_words (b ∷ bs) h = rw (blank_from b h.0) (no_words bs h.1)

past_blanks : (gap rest : List ℕ) → AllByRecursion IsBlank gap → words_of (gap ++ rest) ≡ words_of rest
past_blanks [] rest h = refl
past_blanks (b ∷ bs) rest h = rw (blank_from b h.0) (past_blanks bs rest h.1)

no_blanks : (word : List ℕ) → AllByRecursion (λ b. IsBlank b → ⊥) word → AllByRecursion (λ b. is_blank b ≡ false) word
no_blanks [] h = tt
no_blanks (b ∷ bs) h = (no_blank_from b h.0, no_blanks bs h.1)

only_words : (line : List ℕ) (words : List Word) → AreWordsOf line words → words_of line ≡ words
only_words line [] h = no_words line h
only_words line (word ∷ words) (rest, w, h) =
    ap words_of w.split
    ∙ (past_blanks w.gap (word ++ rest) w.blanks
    ∙ (word_first word rest w.some (no_blanks word w.no_blank) (goes_no_further rest w.longest)
    ∙ ap (λ (ws : List Word). word ∷ ws) (only_words rest words h)))

-- ---- each line has words

with_blank : (b : ℕ) (line : List ℕ) (words : List Word) → IsBlank b → AreWordsOf line words → AreWordsOf (b ∷ line) words
with_blank b line [] blank h = (blank, h)
with_blank b line (word ∷ words) blank (rest, w, h) =
    (rest, record { gap = b ∷ w.gap; split = ap (λ bs. b ∷ bs) w.split; blanks = (blank, w.blanks); some = w.some; no_blank = w.no_blank; longest = w.longest }, h)

abbrev Words : List ℕ → Type 0
Words line = (words : List Word) × AreWordsOf line words

-- a byte that is no blank, before a line that begins with none
alone : (b : ℕ) (line : List ℕ) (words : List Word) → (IsBlank b → ⊥) → GoesNoFurther line → AreWordsOf line words → AreWordsOf (b ∷ line) ((b ∷ []) ∷ words)
alone b line words other ends h = (line, record { gap = []; split = refl; blanks = tt; some = omega arith; no_blank = (other, tt); longest = ends }, h)

goes_of_blanks : (line : List ℕ) → AllByRecursion IsBlank line → GoesNoFurther line
goes_of_blanks [] h = tt
goes_of_blanks (b ∷ bs) h = h.0

with_other : (b : ℕ) (line : List ℕ) → (IsBlank b → ⊥) → Words line → Words (b ∷ line)
with_other b line other ([], h) = ((b ∷ []) ∷ [], alone b line [] other (goes_of_blanks line h) h)
with_other b line other (word ∷ words, (rest, w, h)) = by w.gap w.split w.blanks
  where
    by : (gap : List ℕ) → line ≡ gap ++ (word ++ rest) → AllByRecursion IsBlank gap → Words (b ∷ line)
    by [] split blanks = (
      (b ∷ word) ∷ words,
      (rest, record { gap = []; split = ap (λ bs. b ∷ bs) split; blanks = tt; some = omega arith; no_blank = (other, w.no_blank); longest = w.longest }, h),
    )
    by (c ∷ cs) split blanks = (
      (b ∷ []) ∷ word ∷ words,
      alone b line (word ∷ words) other (subst GoesNoFurther (sym split) blanks.0) (rest, w, h),
    )

each_line : (line : List ℕ) → Words line
each_line [] = ([], tt)
each_line (b ∷ bs) =
    elim (cases_Bool (is_blank b)) [
      | inl e ↦ (let rest = each_line bs in (rest.0, with_blank b bs rest.0 (is_a_blank b e) rest.1))
      | inr e ↦ with_other b bs (λ h. false≢true (sym e ∙ blank_from b h)) (each_line bs)
    ]

pub words_exactly : WordsExactly
words_exactly line words = (
  λ e. let found = each_line line in subst (AreWordsOf line) (sym (only_words line found.0 found.1) ∙ e) found.1,
  only_words line words,
)
