-- Words written with single spaces, and lines that end in a line feed, are read as they were written.
use Rattle.std.proofs.Common.{◌≡◌, ℕ, ◌+◌, ◌<◌, ◌≤◌, Bool, true, false, ◌&&◌, not, ◌==◌, nat_lt, List, [], ◌∷◌, ◌++◌, length, None, Some, Result, Ok, Err, refl, sym, ap, ◌∙◌, arith, if◌then◌else◌, eqb}
use Rattle.std.specs.List.{AllByRecursion, list_all, onto_first}
use Rattle.std.proofs.lemmas.List.{append_assoc, append-nil}
use Rattle.std.proofs.lemmas.Bool.{and_parts, not-true}
use Rattle.std.proofs.lemmas.Bool.Decides.{nat_tests}
use Rattle.tg_names.specs.Names.{Name, IsName, first_bad, fits_at}
use Rattle.tg_words.specs.declared.faults.TextKind.{TextKind}
use Rattle.tg_words.specs.declared.faults.TextKind.TheVariants.{LineTooLong}
use Rattle.tg_words.specs.Lines.{lines_of, words_of, is_blank, begins_with_word, is_skipped}
use Rattle.tg_words.specs.Reading.{after_line}
use Rattle.tg_words.specs.Words.{Word}
use Rattle.tg_words.specs.Spelling.{spaced, line_of}
use Rattle.tg_words.specs.Limits.{most_line_bytes}

-- ---- words without blanks and line feeds
abbrev pub is_plain : ℕ → Bool
is_plain b = not (is_blank b) && not (b == 10)

abbrev pub Plain : List ℕ → Type 0
Plain = AllByRecursion (λ b. is_plain b ≡ true)

pub record IsPlainWord (word : Word) : Type 0 where
  pub some : 0 < length word
  pub plain : AllByRecursion (λ b. is_plain b ≡ true) word

plain_not_blank : (b : ℕ) → is_plain b ≡ true → is_blank b ≡ false
plain_not_blank b e = not-true (is_blank b) (and_parts (not (is_blank b)) (not (b == 10)) e).0

plain_not_feed : (b : ℕ) → is_plain b ≡ true → (b == 10) ≡ false
plain_not_feed b e = not-true (b == 10) (and_parts (not (is_blank b)) (not (b == 10)) e).1

plain_from_test : (bs : List ℕ) → list_all is_plain bs ≡ true → Plain bs
plain_from_test [] e = tt
plain_from_test (b ∷ bs) e = ((and_parts (is_plain b) (list_all is_plain bs) e).0, plain_from_test bs (and_parts (is_plain b) (list_all is_plain bs) e).1)

-- a fixed word, by computation
pub word_from_test : (word : Word) → list_all is_plain word ≡ true → nat_lt 0 (length word) ≡ true → IsPlainWord word
word_from_test word e l = record { some = grind (arith, nat_tests); plain = plain_from_test word e }

-- ---- the words of a line
-- a run that goes no further is one word
pub word_first : (word rest : List ℕ) → 0 < length word → AllByRecursion (λ b. is_blank b ≡ false) word → begins_with_word rest ≡ false → words_of (word ++ rest) ≡ word ∷ words_of rest
word_first [] rest l h e = absurd (omega arith)
word_first (b ∷ []) rest l h e = rw (h.0, e) refl
word_first (b ∷ c ∷ cs) rest l h e = rw (h.0, ap not h.1.0) (ap (onto_first b) (word_first (c ∷ cs) rest (omega arith) h.1 e))

plain_no_blanks : (word : List ℕ) → Plain word → AllByRecursion (λ b. is_blank b ≡ false) word
plain_no_blanks [] p = tt
plain_no_blanks (b ∷ bs) p = (plain_not_blank b p.0, plain_no_blanks bs p.1)

word-read : (word rest : List ℕ) → 0 < length word → Plain word → begins_with_word rest ≡ false → words_of (word ++ rest) ≡ word ∷ words_of rest
word-read word rest l p e = word_first word rest l (plain_no_blanks word p) e

pub words-spaced : (words : List Word) → AllByRecursion IsPlainWord words → words_of (spaced words) ≡ words
words-spaced [] a = refl
words-spaced (word ∷ []) a = ap words_of (sym (append-nil word)) ∙ word-read word [] a.0.some a.0.plain refl
words-spaced (word ∷ next ∷ words) a =
    word-read word (32 ∷ spaced (next ∷ words)) a.0.some a.0.plain refl ∙ ap (λ ws. word ∷ ws) (words-spaced (next ∷ words) a.1)

-- ---- the lines of a text
abbrev pub NoFeed : List ℕ → Type 0
NoFeed = AllByRecursion (λ b. eqb b 10 ≡ false)

pub line_first : (line rest : List ℕ) → NoFeed line → lines_of (line ++ (10 ∷ rest)) ≡ line ∷ lines_of rest
line_first [] rest h = refl
line_first (b ∷ bs) rest h = rw h.0 (ap (onto_first b) (line_first bs rest h.1))

no_feed-append : (xs ys : List ℕ) → Plain xs → NoFeed ys → NoFeed (xs ++ ys)
no_feed-append [] ys p n = n
no_feed-append (x ∷ xs) ys p n = (plain_not_feed x p.0, no_feed-append xs ys p.1 n)

no_feed-plain : (xs : List ℕ) → Plain xs → NoFeed xs
no_feed-plain [] p = tt
no_feed-plain (x ∷ xs) p = (plain_not_feed x p.0, no_feed-plain xs p.1)

no_feed-spaced : (words : List Word) → AllByRecursion IsPlainWord words → NoFeed (spaced words)
no_feed-spaced [] a = tt
no_feed-spaced (word ∷ []) a = no_feed-plain word a.0.plain
no_feed-spaced (word ∷ next ∷ words) a = no_feed-append word (32 ∷ spaced (next ∷ words)) a.0.plain (refl, no_feed-spaced (next ∷ words) a.1)

pub lines-spaced : (words : List Word) (rest : List ℕ) → AllByRecursion IsPlainWord words → lines_of (line_of words ++ rest) ≡ spaced words ∷ lines_of rest
lines-spaced words rest a = ap lines_of (append_assoc (spaced words) (10 ∷ []) rest) ∙ line_first (spaced words) rest (no_feed-spaced words a)

-- ---- names are plain words
fits-plain : (k b : ℕ) → fits_at k b ≡ true → is_plain b ≡ true
fits-plain k b e = grind (arith, nat_tests)

name-plain : (k : ℕ) (bs : List ℕ) → first_bad k bs ≡ None → Plain bs
name-plain k [] e = tt
name-plain k (b ∷ bs) e = by (fits_at k b) refl e (name-plain (k + 1) bs)
  where
    by : (x : Bool) → fits_at k b ≡ x → (if x then first_bad (k + 1) bs else Some k) ≡ None → (first_bad (k + 1) bs ≡ None → Plain bs) → Plain (b ∷ bs)
    by true f h rec = (fits-plain k b f, rec h)
    by false f h rec = cc

pub name_word : (v : Name) → IsName v → IsPlainWord v
name_word v n = record { some = n.some; plain = name-plain 0 v n.fit }

-- a name that goes no further is the first word
pub name_first : (v : Name) (rest : List ℕ) → IsName v → begins_with_word rest ≡ false → words_of (v ++ rest) ≡ v ∷ words_of rest
name_first v rest n e = word-read v rest n.some (name-plain 0 v n.fit) e

-- a line that is not too long and not skipped, by its words
pub line-is : {A : Type 0} (item : A → List Word → Result A TextKind) (a : A) (words : List Word) → AllByRecursion IsPlainWord words → length (spaced words) ≤ most_line_bytes → is_skipped words ≡ false
    → after_line item a (spaced words) ≡ item a words
line-is item a words p l s =
    let short : nat_lt most_line_bytes (length (spaced words)) ≡ false = grind (arith, nat_tests) in
    ap (λ b. if b then Err LineTooLong else (if is_skipped (words_of (spaced words)) then Ok a else item a (words_of (spaced words)))) short
    ∙ ap (λ ws. if is_skipped ws then Ok a else item a ws) (words-spaced words p) ∙ ap (λ b. if b then Ok a else item a words) s
