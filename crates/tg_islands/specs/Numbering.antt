-- Islands by number.
use Rattle.std.specs.Prelude.{◌≡◌, ℕ, ◌<◌, ◌↔◌, true, List, length, nat_eq, bytes_eq, position, slice_get, slice_index_or, Option, Some, None}
use Rattle.std.specs.List.{list_any}
use Rattle.std.specs.Option.{option_and_then}
use Rattle.tg_names.specs.Names.{Name}
use Rattle.tg_graph.specs.Graphs.{ProtectionGraph}
use Rattle.tg_islands.specs.Sharing.{InOneIsland}

-- numbered from 0 in order of first position: each smaller number stands at an earlier position
abbrev pub InOrderOfFirstPosition : List ℕ → Type 0
InOrderOfFirstPosition numbers = (a m : ℕ) → slice_get numbers a ≡ Some m → (k : ℕ) → k < m → (b : ℕ) × (b < a) × (slice_get numbers b ≡ Some k)

-- the number at a position, if it has one
abbrev pub number_in : List (Option ℕ) → ℕ → Option ℕ
number_in numbers a = slice_index_or numbers a None

-- the number of a vertex's island, where the vertices have these numbers by position
abbrev pub number_of : List Name → List ℕ → Name → Option ℕ
number_of vs numbers v = option_and_then (λ place. slice_get numbers place) (position (bytes_eq v) vs)

-- the numbers in use are those below the count
pub record AreCounted (numbers : List ℕ) (count : ℕ) : Type 0 where
  pub below : (a m : ℕ) → slice_get numbers a ≡ Some m → m < count
  pub used : (m : ℕ) → m < count → list_any (nat_eq m) numbers ≡ true

-- two positions have one number exactly where their vertices lie in one island
pub record AreIslands (g : ProtectionGraph) (numbers : List ℕ) : Type 0 where
  pub len : length numbers ≡ length g.vertices
  pub exact : (a b : ℕ) (u v : Name) → slice_get g.vertices a ≡ Some u → slice_get g.vertices b ≡ Some v → (slice_get numbers a ≡ slice_get numbers b) ↔ InOneIsland g u v
  pub ordered : InOrderOfFirstPosition numbers
