-- A flood along links, which gives a number to each position that it meets.
use Rattle.std.specs.Prelude.{◌≡◌, ℕ, ◌<◌, ◌+◌, true, not, List, [], ◌∷◌, length, count_by, Option, Some, None, is_some, ◌⊎◌}
use Rattle.tg_sharing.specs.declared.flooding.Flood.{Flood}
use Rattle.tg_rows.specs.Rows.{Entries}
use Rattle.tg_islands.specs.Linked.{linked_end}
use Rattle.tg_islands.specs.Numbering.{number_in}
use Rattle.tg_islands.specs.Positions.{IsOneOf}

abbrev pub number_at : Flood → ℕ → Option ℕ
number_at flood a = number_in flood.numbers.items a

-- how many positions have no number, or have one and wait
abbrev pub work_left : Flood → ℕ
work_left flood = count_by (λ number. not (is_some number)) flood.numbers.items + length flood.waiting.items

-- positions were met: each has a number, and those that had none have the current one and wait
pub record Meets (positions : List ℕ) (old new : Flood) : Type 0 where
  pub len : length new.numbers.items ≡ length old.numbers.items
  pub current : new.current ≡ old.current
  pub kept : (a m : ℕ) → number_at old a ≡ Some m → number_at new a ≡ Some m
  pub numbered : (a : ℕ) → number_at old a ≡ None → (number_at new a ≡ None) ⊎ ((number_at new a ≡ Some old.current) × IsOneOf a positions × IsOneOf a new.waiting.items)
  pub still_waits : (a : ℕ) → IsOneOf a old.waiting.items → IsOneOf a new.waiting.items
  pub waits : (a : ℕ) → IsOneOf a new.waiting.items → IsOneOf a old.waiting.items ⊎ ((number_at old a ≡ None) × (number_at new a ≡ Some old.current))
  pub met : (a : ℕ) → IsOneOf a positions → is_some (number_at new a) ≡ true
  pub work : work_left new ≡ work_left old

-- the end of the edge at a place, if it links, was met, and nothing else
pub record MeetsEnd (es : Entries) (a place : ℕ) (old new : Flood) : Type 0 where
  pub met : (b : ℕ) → linked_end es a place ≡ Some b → Meets (b ∷ []) old new
  pub kept : linked_end es a place ≡ None → new ≡ old

-- the ends of the linking edges of a row, up to a place, were met, and nothing else
pub record MeetsEnds (es : Entries) (a here : ℕ) (old new : Flood) : Type 0 where
  pub positions : List ℕ
  pub all : (place b : ℕ) → place < here → linked_end es a place ≡ Some b → IsOneOf b positions
  pub only : (b : ℕ) → IsOneOf b positions → (place : ℕ) × (linked_end es a place ≡ Some b)
  pub meets : Meets positions old new
