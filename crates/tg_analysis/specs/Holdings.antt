-- What islands hold: for each number of an island, a mark for each position of a vertex over which the island holds the right.
use Rattle.std.specs.Prelude.{◌≡◌, ℕ, Bool, false, ◌||◌, ◌&&◌, List, [], length, nat_eq, slice_index_or}

-- whether the position is marked; past the end none is
abbrev pub is_marked : List Bool → ℕ → Bool
is_marked marks b = slice_index_or marks b false

-- whether the island with the number holds the right over the vertex at the position
abbrev pub holds_over : List (List Bool) → ℕ → ℕ → Bool
holds_over held number b = is_marked (slice_index_or held number []) b

-- the position is marked as well, and no other
abbrev pub MarksOne : List Bool → List Bool → ℕ → Type 0
MarksOne old new position = (b : ℕ) → is_marked new b ≡ (is_marked old b || nat_eq b position)

-- the position is marked as well if the other marks have it
abbrev pub CopiesMark : List Bool → List Bool → List Bool → ℕ → Type 0
CopiesMark old new other position = (b : ℕ) → is_marked new b ≡ (is_marked old b || (nat_eq b position && is_marked other b))

-- the other marks are added
abbrev pub JoinsMarks : List Bool → List Bool → List Bool → Type 0
JoinsMarks old new other = (b : ℕ) → is_marked new b ≡ (is_marked old b || is_marked other b)

-- the island with the number holds over the vertex at the position as well
pub record AddsTarget (old new : List (List Bool)) (number position : ℕ) : Type 0 where
  pub len : length new ≡ length old
  pub held : (k b : ℕ) → holds_over new k b ≡ (holds_over old k b || (nat_eq k number && nat_eq b position))

-- the island with the number holds over what is marked as well
pub record AddsTargets (old new : List (List Bool)) (number : ℕ) (marks : List Bool) : Type 0 where
  pub len : length new ≡ length old
  pub held : (k b : ℕ) → holds_over new k b ≡ (holds_over old k b || (nat_eq k number && is_marked marks b))

-- each island holds what the two together say
pub record JoinsHoldings (old new other : List (List Bool)) : Type 0 where
  pub len : length new ≡ length old
  pub held : (k b : ℕ) → holds_over new k b ≡ (holds_over old k b || holds_over other k b)
