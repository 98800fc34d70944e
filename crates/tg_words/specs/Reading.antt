-- Reading a text line by line, up to the first fault.
use Rattle.std.specs.Prelude.{◌≡◌, ℕ, ◌+◌, ◌<◌, nat_lt, nat_le, List, [], ◌∷◌, ◌++◌, length, Option, None, Some, Result, Ok, Err, if◌then◌else◌}
use Rattle.tg_words.specs.declared.faults.TextKind.{TextKind}
use Rattle.tg_words.specs.declared.faults.TextKind.TheVariants.{LineTooLong, TooMany}
use Rattle.tg_words.specs.declared.faults.TextFault.{TextFault}
use Rattle.tg_words.specs.declared.faults.TextFault.TheVariants.{At, Memory}
use Rattle.tg_words.specs.declared.faults.LineFault.{LineFault}
use Rattle.tg_words.specs.declared.faults.LineFault.TheVariants as line
use Rattle.tg_words.specs.Lines.{lines_of, words_of, is_skipped}
use Rattle.tg_words.specs.Limits.{most_line_bytes}

-- goes on with the value, if there is one
infixl 10 ◌>>=◌
abbrev pub ◌>>=◌ : {A B E : Type 0} → Result A E → (A → Result B E) → Result B E
(Ok x) >>= f = f x
(Err e) >>= f = Err e

-- a fault of the line with this number
abbrev pub on_line : {A : Type 0} → ℕ → Result A TextKind → Result A (ℕ × TextKind)
on_line n (Ok x) = Ok x
on_line n (Err kind) = Err (n, kind)

-- what a line makes of what the earlier lines made: item says it of the words of a line that is not skipped
abbrev pub after_line : {A : Type 0} → (A → List (List ℕ) → Result A TextKind) → A → List ℕ → Result A TextKind
after_line item a line = if nat_lt most_line_bytes (length line) then Err LineTooLong else (if is_skipped (words_of line) then Ok a else item a (words_of line))

-- each line in turn, the first of them with the number n; item knows the number of its line
abbrev pub after_lines : {A : Type 0} → (ℕ → A → List (List ℕ) → Result A TextKind) → ℕ → A → List (List ℕ) → Result A (ℕ × TextKind)
after_lines item n a [] = Ok a
after_lines item n a (line ∷ lines) = on_line n (after_line (item n) a line) >>= λ b. after_lines item (n + 1) b lines

-- the first line of a text makes b of what earlier lines made, and the rest of the text stands behind it
pub record MakesFirst {A : Type 0} (item : A → List (List ℕ) → Result A TextKind) (a : A) (text : List ℕ) (b : A) (rest : List ℕ) : Type 0 where
  pub line : List ℕ
  pub cut : lines_of text ≡ line ∷ lines_of rest
  pub shorter : length rest < length text
  pub made : after_line item a line ≡ Ok b

-- one more item, if there are fewer than most
abbrev pub with_item : {A : Type 0} → ℕ → List A → Result A TextKind → Result (List A) TextKind
with_item most items item = item >>= λ x. if nat_le most (length items) then Err TooMany else Ok (items ++ x ∷ [])

-- An outcome of a reader, its value seen by view: what reading the text gives, unless there was no memory.
abbrev pub Reads : {X A : Type 0} → (X → A) → Result X TextFault → Result A (ℕ × TextKind) → Type 0
Reads view (Ok x) reading = reading ≡ Ok (view x)
Reads view (Err (At line kind)) reading = reading ≡ Err (line, kind)
Reads view (Err Memory) reading = Unit {0}

-- An outcome of a part of a reader that takes no memory, its value seen by view.
abbrev pub Sees : {X A : Type 0} → (X → A) → Result X TextKind → Result A TextKind → Type 0
Sees view (Ok x) reading = reading ≡ Ok (view x)
Sees view (Err kind) reading = reading ≡ Err kind

-- An outcome of a part of a reader, its value seen by view: what the reading gives, unless there was no memory.
abbrev pub Finds : {X A : Type 0} → (X → A) → Result X LineFault → Result A TextKind → Type 0
Finds view (Ok x) reading = reading ≡ Ok (view x)
Finds view (Err (line.Kind kind)) reading = reading ≡ Err kind
Finds view (Err line.Memory) reading = Unit {0}

-- An outcome of adding a line to what the earlier lines made, which has become made: what the line makes of it, unless there was no memory.
abbrev pub Makes : {A : Type 0} → Result A TextKind → Result (Unit {0}) LineFault → A → Type 0
Makes reading (Ok _) made = reading ≡ Ok made
Makes reading (Err (line.Kind kind)) made = reading ≡ Err kind
Makes reading (Err line.Memory) made = Unit {0}

-- An outcome of adding so many lines, one by one, to what has become made: the reading of the lines, unless there was no memory.
abbrev pub MakesAll : {A : Type 0} → Result A (ℕ × TextKind) → ℕ → Result ℕ TextFault → A → Type 0
MakesAll reading count (Ok n) made = (n ≡ count) × (reading ≡ Ok made)
MakesAll reading count (Err (At line kind)) made = reading ≡ Err (line, kind)
MakesAll reading count (Err Memory) made = Unit {0}

abbrev pub fault_on_line : LineFault → ℕ → TextFault
fault_on_line (line.Kind kind) n = At n kind
fault_on_line line.Memory n = Memory

-- the words of a line: nothing where it is skipped
abbrev pub content_of : List ℕ → Result (Option (List (List ℕ))) TextKind
content_of line = if nat_lt most_line_bytes (length line) then Err LineTooLong else (if is_skipped (words_of line) then Ok None else Ok (Some (words_of line)))
