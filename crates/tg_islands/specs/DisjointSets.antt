-- Positions in sets that have none in common.
use Rattle.std.specs.Prelude.{◌≡◌, ℕ, ◌<◌, ◌≤◌, cond, List, [], ◌∷◌, length, nat_eq, slice_index_or, ◌⊎◌}
use Rattle.std.specs.List.{list_any}
use Rattle.tg_islands.specs.declared.disjoint_sets.DisjointSets.{DisjointSets}
use Rattle.tg_islands.specs.Positions.{IsOneOf}

-- the set that a position is in
abbrev pub set_of : List ℕ → ℕ → ℕ
set_of sets a = slice_index_or sets a 0

-- the members of a set, none where there is no such set
abbrev pub members_of : List (List ℕ) → ℕ → List ℕ
members_of members s = slice_index_or members s []

-- each set has as members exactly the positions that are in it
pub record AreSets (d : DisjointSets) : Type 0 where
  pub len : length d.members.items ≡ length d.sets.items
  pub known : (a : ℕ) → a < length d.sets.items → set_of d.sets.items a < length d.sets.items
  pub member : (a : ℕ) → a < length d.sets.items → IsOneOf a (members_of d.members.items (set_of d.sets.items a))
  pub only : (s a : ℕ) → IsOneOf a (members_of d.members.items s) → (a < length d.sets.items) × (set_of d.sets.items a ≡ s)

-- so many positions, each alone in the set of its own number
pub record AreApart (count : ℕ) (d : DisjointSets) : Type 0 where
  pub len : length d.sets.items ≡ count
  pub members : length d.members.items ≡ count
  pub alone : (a : ℕ) → a < count → (set_of d.sets.items a ≡ a) × (members_of d.members.items a ≡ a ∷ [])

-- the positions are in the set now, and the others where they were
pub record PutsInto (positions : List ℕ) (set : ℕ) (old new : List ℕ) : Type 0 where
  pub len : length new ≡ length old
  pub there : (a : ℕ) → a < length old → set_of new a ≡ cond (list_any (nat_eq a) positions) set (set_of old a)

-- the positions of one set are in another now
pub record MovesSet (from to : ℕ) (old new : List ℕ) : Type 0 where
  pub len : length new ≡ length old
  pub there : (a : ℕ) → a < length old → set_of new a ≡ cond (nat_eq (set_of old a) from) to (set_of old a)

-- the set of one of two positions has moved into that of the other
pub record JoinsSets (a b : ℕ) (old new : DisjointSets) : Type 0 where
  pub sets : AreSets new
  pub joined : MovesSet (set_of old.sets.items a) (set_of old.sets.items b) old.sets.items new.sets.items ⊎ MovesSet (set_of old.sets.items b) (set_of old.sets.items a) old.sets.items new.sets.items

-- positions that were in one set still are
pub record StayTogether (old new : List ℕ) : Type 0 where
  pub len : length new ≡ length old
  pub together : (a b : ℕ) → a < length old → b < length old → set_of old a ≡ set_of old b → set_of new a ≡ set_of new b

-- the first positions, so many, are in one set
pub record AreInOne (sets : List ℕ) (count : ℕ) : Type 0 where
  pub within : count ≤ length sets
  pub one : (a : ℕ) → a < count → set_of sets a ≡ set_of sets 0
