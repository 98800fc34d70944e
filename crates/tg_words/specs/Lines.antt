-- The lines of a text, and the words of a line.
use Rattle.std.specs.Prelude.{◌≡◌, refl, ℕ, ◌<◌, ◌≤◌, Bool, true, false, ◌==◌, ◌||◌, not, List, [], ◌∷◌, get_or, length, codes, if◌then◌else◌}
use Rattle.std.specs.List.{onto_first}

-- what stands between line feeds; what follows the last one is a line if it is not empty
abbrev pub lines_of : List ℕ → List (List ℕ)
lines_of [] = []
lines_of (b ∷ bs) = if b == 10 then [] ∷ lines_of bs else onto_first b (lines_of bs)

-- no line feed stands in front of a place
abbrev pub NoLineFeedBefore : List ℕ → ℕ → Type 0
NoLineFeedBefore text place = (k : ℕ) → k < place → get_or text k 0 ≡ 10 → ⊥

-- whether a byte ends a line
abbrev pub is_line_feed : ℕ → Bool
is_line_feed b = b == 10

-- the place of the first line feed, or the end of a text that has none
abbrev pub IsLineEnd : List ℕ → ℕ → Type 0
IsLineEnd text place = (place ≤ length text) × NoLineFeedBefore text place × (place < length text → get_or text place 0 ≡ 10)

-- a space, a tab or a carriage return
abbrev pub is_blank : ℕ → Bool
is_blank b = b == 32 || b == 9 || b == 13

-- whether a word stands at the very front
abbrev pub begins_with_word : List ℕ → Bool
begins_with_word [] = false
begins_with_word (b ∷ bs) = not (is_blank b)

-- the longest runs of bytes that are no blanks
abbrev pub words_of : List ℕ → List (List ℕ)
words_of [] = []
words_of (b ∷ bs) = if is_blank b then words_of bs else (if begins_with_word bs then onto_first b (words_of bs) else (b ∷ []) ∷ words_of bs)

-- whether the bytes begin with `#`
abbrev pub begins_with_hash : List ℕ → Bool
begins_with_hash [] = false
begins_with_hash (b ∷ bs) = b == 35

-- whether a line of these words is skipped: it has none, or it is a comment
abbrev pub is_skipped : List (List ℕ) → Bool
is_skipped [] = true
is_skipped (word ∷ words) = begins_with_hash word

the_last_line_may_end : lines_of (97 ∷ 10 ∷ 98 ∷ []) ≡ lines_of (97 ∷ 10 ∷ 98 ∷ 10 ∷ [])
the_last_line_may_end = refl

an_empty_line_counts : lines_of (10 ∷ 97 ∷ 10 ∷ 10 ∷ []) ≡ [] ∷ (97 ∷ []) ∷ [] ∷ []
an_empty_line_counts = refl

blanks_part_words : words_of (codes " ab  c ") ≡ codes "ab" ∷ codes "c" ∷ []
blanks_part_words = refl
