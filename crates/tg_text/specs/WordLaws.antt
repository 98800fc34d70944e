-- What the lines of a text, the words of a line and the numbers are.
use Rattle.std.specs.Prelude.{◌≡◌, ◌≢◌, ◌↔◌, ◌⊎◌, ⊤, ℕ, ◌<◌, ◌≤◌, List, [], ◌∷◌, ◌++◌, length, decimal, Some, IsSome, IsTrue}
use Rattle.std.specs.List.{AllByRecursion, flat_map}
use Rattle.tg_names.specs.Laws.{IsDigit}
use Rattle.tg_words.specs.Lines.{is_blank, lines_of, words_of}
use Rattle.tg_words.specs.Words.{Word, number_of}

-- ---- lines

abbrev pub HasNoFeed : List ℕ → Type 0
HasNoFeed = AllByRecursion (λ b. b ≢ 10)

-- the lines, each with a line feed
abbrev pub with_feeds : List (List ℕ) → List ℕ
with_feeds lines = flat_map (λ line. line ++ 10 ∷ []) lines

-- the last line has no line feed, and it is not empty
pub record EndsWithout (text : List ℕ) (lines : List (List ℕ)) : Type 0 where
  pub front : List (List ℕ)
  pub last : List ℕ
  pub split : lines ≡ front ++ last ∷ []
  pub some : 0 < length last
  pub joined : text ≡ with_feeds front ++ last

-- no line has a line feed in it, and the lines with their line feeds are the text; only the last one may lack its own, if it is not empty
pub record AreLinesOf (text : List ℕ) (lines : List (List ℕ)) : Type 0 where
  pub no_feed : AllByRecursion HasNoFeed lines
  pub joined : (text ≡ with_feeds lines) ⊎ EndsWithout text lines

-- each text has these lines, and no others
abbrev pub LinesExactly : Type 0
LinesExactly = (text : List ℕ) (lines : List (List ℕ)) → (lines_of text ≡ lines) ↔ AreLinesOf text lines

-- ---- words

-- a space, a tab or a carriage return
abbrev pub IsBlank : ℕ → Type 0
IsBlank b = (b ≡ 32) ⊎ ((b ≡ 9) ⊎ (b ≡ 13))

abbrev pub BlanksExactly : Type 0
BlanksExactly = (b : ℕ) → IsTrue (is_blank b) ↔ IsBlank b

-- the bytes are none, or begin with a blank
abbrev pub GoesNoFurther : List ℕ → Type 0
GoesNoFurther [] = ⊤
GoesNoFurther (b ∷ bs) = IsBlank b

-- the line begins with blanks, none or more, and behind them with a run without blanks that is as long as it can be
pub record BeginsWithWord (line : List ℕ) (word : Word) (rest : List ℕ) : Type 0 where
  pub gap : List ℕ
  pub split : line ≡ gap ++ (word ++ rest)
  pub blanks : AllByRecursion IsBlank gap
  pub some : 0 < length word
  pub no_blank : AllByRecursion (λ b. IsBlank b → ⊥) word
  pub longest : GoesNoFurther rest

-- the words stand in the line in turn, and all else is blank
abbrev pub AreWordsOf : List ℕ → List Word → Type 0
AreWordsOf line [] = AllByRecursion IsBlank line
AreWordsOf line (word ∷ words) = (rest : List ℕ) × BeginsWithWord line word rest × AreWordsOf rest words

-- each line has these words, and no others
abbrev pub WordsExactly : Type 0
WordsExactly = (line : List ℕ) (words : List Word) → (words_of line ≡ words) ↔ AreWordsOf line words

-- ---- numbers

-- one to four digits, the first not 0
pub record IsSpelledAsNumber (word : Word) : Type 0 where
  pub some : 0 < length word
  pub few : length word ≤ 4
  pub digits : AllByRecursion IsDigit word
  pub first : (rest : Word) → word ≢ 48 ∷ rest

abbrev pub NumberWordsExactly : Type 0
NumberWordsExactly = (word : Word) → IsSome (number_of word) ↔ IsSpelledAsNumber word

-- the value of a word for a number is the one that it writes in decimal
abbrev pub NumbersAreDecimal : Type 0
NumbersAreDecimal = (word : Word) (n : ℕ) → (number_of word ≡ Some n) ↔ ((word ≡ decimal n) × (0 < n) × (n < 10000))
