-- Islands as sets that links join, and their numbers.
use Rattle.std.specs.Prelude.{◌≡◌, ℕ, ◌<◌, ◌≤◌, ◌↔◌, List, length, slice_get, Some}
use Rattle.std.specs.Map.{keys_of}
use Rattle.tg_names.specs.Names.{Name}
use Rattle.tg_graph.specs.GraphOf.{graph_of}
use Rattle.tg_rows.specs.Rows.{Entries}
use Rattle.tg_islands.specs.declared.disjoint_sets.DisjointSets.{DisjointSets}
use Rattle.tg_islands.specs.declared.joining.Numbers.{Numbers}
use Rattle.tg_islands.specs.Sharing.{InOneIsland}
use Rattle.tg_islands.specs.Linked.{linked_end, IsBefore}
use Rattle.tg_islands.specs.Numbering.{InOrderOfFirstPosition, number_in}
use Rattle.tg_islands.specs.DisjointSets.{set_of, AreSets}

-- positions in one set lie in one island, and each edge so far has its ends in one set
pub record JoinedUpTo (es : Entries) (d : DisjointSets) (position here : ℕ) : Type 0 where
  pub sets : AreSets d
  pub len : length d.sets.items ≡ length (keys_of es)
  pub joined : (a b : ℕ) (u v : Name) → slice_get (keys_of es) a ≡ Some u → slice_get (keys_of es) b ≡ Some v → set_of d.sets.items a ≡ set_of d.sets.items b → InOneIsland (graph_of es) u v
  pub there : (a place b : ℕ) → IsBefore a place position here → linked_end es a place ≡ Some b → set_of d.sets.items a ≡ set_of d.sets.items b

-- the sets of the first positions have numbers, from 0 in order of their first position
pub record NumbersUpTo (sets : List ℕ) (i : ℕ) (n : Numbers) : Type 0 where
  pub slots : length n.of_sets.items ≡ length sets
  pub len : length n.numbers.items ≡ i
  pub few : n.count ≤ i
  pub given : (a : ℕ) → a < i → number_in n.of_sets.items (set_of sets a) ≡ slice_get n.numbers.items a
  pub from : (s m : ℕ) → number_in n.of_sets.items s ≡ Some m → (m < n.count) × ((a : ℕ) × (a < i) × (set_of sets a ≡ s))
  pub apart : (s t m : ℕ) → number_in n.of_sets.items s ≡ Some m → number_in n.of_sets.items t ≡ Some m → s ≡ t
  pub used : (m : ℕ) → m < n.count → (a : ℕ) × (a < i) × (slice_get n.numbers.items a ≡ Some m)
  pub ordered : InOrderOfFirstPosition n.numbers.items

-- two positions have one number exactly where they are in one set
pub record NumberSets (sets numbers : List ℕ) : Type 0 where
  pub len : length numbers ≡ length sets
  pub exact : (a b : ℕ) → a < length sets → b < length sets → (slice_get numbers a ≡ slice_get numbers b) ↔ (set_of sets a ≡ set_of sets b)
  pub ordered : InOrderOfFirstPosition numbers
