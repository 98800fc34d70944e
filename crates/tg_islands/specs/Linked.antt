-- Which vertices are linked, by position.
use Rattle.std.specs.Prelude.{◌≡◌, ℕ, ◌<◌, Bool, true, ◌||◌, ◌&&◌, cond, List, [], length, bytes_eq, nat_eq, slice_get, slice_index_or, position, Option, Some, None, ◌⊎◌}
use Rattle.std.specs.List.{list_any}
use Rattle.std.specs.Map.{keys_of}
use Rattle.std.specs.Option.{option_and_then}
use Rattle.tg_names.specs.declared.right_sets.Right.TheVariants.{T, G}
use Rattle.tg_names.specs.Sets.{member}
use Rattle.tg_rows.specs.Rows.{Entries, row_number}
use Rattle.tg_names.specs.Names.{Name}
use Rattle.tg_graph.specs.Graphs.{ProtectionGraph}
use Rattle.tg_islands.specs.Sharing.{linked}

-- for each position the positions of its neighbours
abbrev pub NeighbourLists : Type 0
NeighbourLists = List (List ℕ)

-- the neighbours of a position, none past the end
abbrev pub neighbours : NeighbourLists → ℕ → List ℕ
neighbours links a = slice_index_or links a []

-- b is among the neighbours of a
abbrev pub is_near : NeighbourLists → ℕ → ℕ → Bool
is_near links a b = list_any (nat_eq b) (neighbours links a)

-- the neighbours of each position are exactly those whose vertices are linked to the one there
pub record AreLinks (g : ProtectionGraph) (links : NeighbourLists) : Type 0 where
  pub len : length links ≡ length g.vertices
  pub within : (a b : ℕ) → is_near links a b ≡ true → b < length g.vertices
  pub exact : (a b : ℕ) (u v : Name) → slice_get g.vertices a ≡ Some u → slice_get g.vertices b ≡ Some v → is_near links a b ≡ linked g u v

-- b becomes a neighbour of a, and nothing else does
pub record AddsNeighbour (old new : NeighbourLists) (a b : ℕ) : Type 0 where
  pub len : length new ≡ length old
  pub near : (c d : ℕ) → is_near new c d ≡ (is_near old c d || (nat_eq c a && nat_eq d b))

-- a and b become neighbours, and no others do
pub record JoinsNeighbours (old new : NeighbourLists) (a b : ℕ) : Type 0 where
  pub len : length new ≡ length old
  pub near : (c d : ℕ) → is_near new c d ≡ ((is_near old c d || (nat_eq c a && nat_eq d b)) || (nat_eq c b && nat_eq d a))

-- the position at the other end of an edge, if its label has take or grant
abbrev pub linked_end : Entries → ℕ → ℕ → Option ℕ
linked_end es a place = option_and_then (λ edge. cond (member edge.1 T || member edge.1 G) (position (bytes_eq edge.0) (keys_of es)) None) (slice_get (row_number es a) place)

-- the edges of the rows before the position, and the edges before the place in the row there
abbrev pub IsBefore : ℕ → ℕ → ℕ → ℕ → Type 0
IsBefore a place position here = (a < position) ⊎ ((a ≡ position) × (place < here))

-- each neighbour comes from an edge, and each edge so far has made its ends neighbours
pub record LinksUpTo (es : Entries) (links : NeighbourLists) (position here : ℕ) : Type 0 where
  pub len : length links ≡ length (keys_of es)
  pub from : (a b : ℕ) → is_near links a b ≡ true → (place : ℕ) × ((linked_end es a place ≡ Some b) ⊎ (linked_end es b place ≡ Some a))
  pub there : (a place b : ℕ) → IsBefore a place position here → linked_end es a place ≡ Some b → (is_near links a b ≡ true) × (is_near links b a ≡ true)
