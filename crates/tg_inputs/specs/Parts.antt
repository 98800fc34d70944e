-- The two texts of an input that holds a graph and rules.
use Rattle.std.specs.Prelude.{ℕ, nat_le, Bool, false, ◌&&◌, List, [], ◌∷◌, ◌++◌, length, codes, bytes_eq}
use Rattle.std.specs.List.{flat_map, before_first, after_first}
use Rattle.tg_words.specs.Limits.{most_line_bytes}
use Rattle.tg_words.specs.Lines.{lines_of, words_of}

-- whether these words are one alone
abbrev pub is_alone : List ℕ → List (List ℕ) → Bool
is_alone word [] = false
is_alone word (w ∷ []) = bytes_eq w word
is_alone word (w ∷ v ∷ vs) = false

-- the line that stands between a graph and rules
abbrev pub parts_texts : List ℕ → Bool
parts_texts line = nat_le (length line) most_line_bytes && is_alone (codes "rules") (words_of line)

-- the lines, each with a line feed
abbrev pub text_of : List (List ℕ) → List ℕ
text_of lines = flat_map (λ line. line ++ 10 ∷ []) lines

-- the lines before the first that stands between a graph and rules
abbrev pub graph_part : List ℕ → List ℕ
graph_part input = text_of (before_first parts_texts (lines_of input))

-- the lines after it
abbrev pub rules_part : List ℕ → List ℕ
rules_part input = text_of (after_first parts_texts (lines_of input))
