-- Grammars of texts, which know of no fault.
use Rattle.std.specs.Prelude.{◌≡◌, ℕ, ◌+◌, ◌≤◌, List, [], ◌∷◌, length, take, slice_get, Some}
use Rattle.std.specs.Bool.{MatchBool}
use Rattle.tg_words.specs.Lines.{words_of, is_skipped}
use Rattle.tg_words.specs.Words.{Word}
use Rattle.tg_words.specs.Limits.{most_line_bytes}

-- A line is not too long. It is skipped, and changes nothing; or its words lead from a to b, as item says.
pub record IsLine {A : Type 0} (item : A → List Word → A → Type 0) (a : A) (line : List ℕ) (b : A) : Type 0 where
  pub short : length line ≤ most_line_bytes
  pub means : MatchBool (is_skipped (words_of line)) (b ≡ a) (item a (words_of line) b)

-- The lines, the first of them with the number n, lead from a to b.
abbrev pub AreLines : {A : Type 0} → (ℕ → A → List Word → A → Type 0) → ℕ → A → List (List ℕ) → A → Type 0
AreLines item n a [] b = b ≡ a
AreLines {A} item n a (line ∷ lines) b = (c : A) × IsLine (item n) a line c × AreLines item (n + 1) c lines b

-- The line with the number m is the first one that leads nowhere.
pub record IsFirstFault {A : Type 0} (item : ℕ → A → List Word → A → Type 0) (n : ℕ) (a : A) (lines : List (List ℕ)) (m : ℕ) : Type 0 where
  pub place : ℕ
  pub number : m ≡ n + place
  pub line : List ℕ
  pub found : slice_get lines place ≡ Some line
  pub before : A
  pub earlier : AreLines item n a (take place lines) before
  pub nowhere : (b : A) → IsLine (item m) before line b → ⊥
