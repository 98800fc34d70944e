-- Edges whose targets are numbers of names.
use Rattle.std.specs.Prelude.{◌≡◌, ◌≢◌, ℕ, ◌<◌, ◌≤◌, ◌-◌, ◌/◌, ◌%◌, Some, length, slice_get, slice_index_or, List, [], ◌++◌, map, unwrap_or}
use Rattle.std.specs.List.{AllByRecursion}
use Rattle.tg_names.specs.declared.right_sets.Rights.{Rights}
use Rattle.tg_rows.specs.declared.targets.Targets.{Targets}
use Rattle.tg_rows.specs.declared.listed_edges.Edge.{Edge}
use Rattle.tg_names.specs.Names.{Name}
use Rattle.tg_rows.specs.Rows.{Edges}

-- the names by number: the shared ones, and then the list's own
abbrev pub names_of : Targets → List Name
names_of targets = unwrap_or targets.shared [] ++ targets.own.items

-- an edge is one number: that of its target, with eight bits for the label behind it
abbrev pub number_of : Edge → ℕ
number_of edge = edge.bits / 256

abbrev pub label_on : Edge → Rights
label_on edge = record { 0 = edge.bits % 256 }

-- the target and label of an edge
abbrev pub named : List Name → Edge → Name × Rights
named names edge = (slice_index_or names (number_of edge) [], label_on edge)

abbrev pub edges_of : List Name → List Edge → Edges
edges_of names edges = map (named names) edges

-- the number of each edge is that of a name
abbrev pub AreWithin : List Name → List Edge → Type 0
AreWithin names edges = AllByRecursion (λ edge. number_of edge < length names) edges

-- the number of each edge is that of the same name among the others
abbrev pub AreNumbered : List Name → List Name → List Edge → Type 0
AreNumbered names others edges = AllByRecursion (λ edge. (number_of edge < length others) × (named others edge ≡ named names edge)) edges

-- the edge at the place has the number
abbrev pub HasNumber : List Edge → ℕ → ℕ → Type 0
HasNumber edges number place = (edge : Edge) × (slice_get edges place ≡ Some edge) × (number_of edge ≡ number)

-- no edge has the number
abbrev pub NoneHas : List Edge → ℕ → Type 0
NoneHas edges number = AllByRecursion (λ edge. number_of edge ≢ number) edges

-- some edge has the number and the label
abbrev pub HasLabel : List Edge → ℕ → Rights → Type 0
HasLabel edges number label = (place : ℕ) × (edge : Edge) × (slice_get edges place ≡ Some edge) × (number_of edge ≡ number) × (label_on edge ≡ label)

-- the edge in front of the place, if there is one, has a lesser number
abbrev pub IsAbove : List Edge → ℕ → ℕ → Type 0
IsAbove edges number place = (0 < place → (edge : Edge) × (slice_get edges (place - 1) ≡ Some edge) × (number_of edge < number))

-- the number goes to the place: a lesser one in front of it, and a greater one there, if there are such
pub record IsNumberGap (edges : List Edge) (number place : ℕ) : Type 0 where
  pub in_range : place ≤ length edges
  pub lesser : IsAbove edges number place
  pub greater : (edge : Edge) → slice_get edges place ≡ Some edge → number < number_of edge

-- names come behind those that are there
pub record Extends (old new : List Name) : Type 0 where
  pub more : List Name
  pub behind : new ≡ old ++ more
