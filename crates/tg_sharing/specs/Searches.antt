-- Breadth-first searches for a vertex that holds a right.
use Rattle.std.specs.Prelude.{◌≡◌, ℕ, ◌<◌, ◌≤◌, ◌==◌, IsTrue, true, false, if◌then◌else◌, List, [], ◌∷◌, ◌++◌, slice_get, nat_eq, Option, Some, None, ◌⊎◌}
use Rattle.std.specs.List.{list_any}
use Rattle.std.specs.Map.{keys_of}
use Rattle.std.specs.Option.{option_and_then}
use Rattle.tg_names.specs.declared.right_sets.Right.{Right}
use Rattle.tg_names.specs.Names.{Name, same_name}
use Rattle.tg_graph.specs.Graphs.{ProtectionGraph, has_vertex}
use Rattle.tg_sharing.specs.declared.chains.Search.{Search}
use Rattle.tg_islands.specs.Sharing.{linked, IsChain, NoRepeat}
use Rattle.tg_islands.specs.Linked.{AreLinks}
use Rattle.tg_islands.specs.Moves.{IsShortest}

-- the vertices in the order in which they were met, each with the place of the one by which it was met
abbrev pub Visits : Type 0
Visits = List (Name × ℕ)

abbrev pub is_among : Name → List Name → Type 0
is_among v vs = IsTrue (list_any (same_name v) vs)

-- v as well, met by the one at the place, unless it was met before
abbrev pub with_met : Visits → Name → ℕ → Visits
with_met met v from = if list_any (same_name v) (keys_of met) then met else met ++ (v, from) ∷ []

-- the vertex by which the one at the place was met, with its own place; none for the first
abbrev pub back_of : Visits → ℕ → Option (Name × ℕ)
back_of met place =
    if place == 0 then None
    else option_and_then (λ visit. option_and_then (λ before. Some (before.0, visit.1)) (slice_get met visit.1)) (slice_get met place)

-- from the vertex at the place back to the one at the end, each the one by which the one before was met
abbrev pub GoesBack : Visits → ℕ → List Name → ℕ → Type 0
GoesBack met place [] end = place ≡ end
GoesBack met place (v ∷ vs) end = (before : ℕ) × (back_of met place ≡ Some (v, before)) × GoesBack met before vs end

-- from the vertex at the place back to the first
abbrev pub IsWayBack : Visits → ℕ → List Name → Type 0
IsWayBack met place way = (end : ℕ) × GoesBack met place way end × (back_of met end ≡ None)

-- each vertex but the first was met by one that stands before it
abbrev pub IsBackwards : Visits → Type 0
IsBackwards met = (place : ℕ) (visit : Name × ℕ) → 0 < place → slice_get met place ≡ Some visit → visit.1 < place

-- the vertex at the place was met by one that stands before it and is linked to it
pub record IsMetBy (g : ProtectionGraph) (met : Visits) (place : ℕ) (v : Name) (from : ℕ) : Type 0 where
  pub earlier : from < place
  pub before : Name × ℕ
  pub there : slice_get met from ≡ Some before
  pub joined : IsTrue (linked g before.0 v)

-- each vertex but the first was met by an earlier one
pub record IsSearch (g : ProtectionGraph) (met : Visits) : Type 0 where
  pub known : (v : Name) → is_among v (keys_of met) → IsTrue (has_vertex g v)
  pub trail : (place : ℕ) (v : Name) (from : ℕ) → 0 < place → slice_get met place ≡ Some (v, from) → IsMetBy g met place v from

-- the vertex was met by one up to the place
abbrev pub IsMetUpTo : Visits → ℕ → Name → Type 0
IsMetUpTo met place v = (at : ℕ) × (from : ℕ) × (from ≤ place) × (slice_get met at ≡ Some (v, from))

-- the places of those by which the vertices were met rise, up to this place
pub record IsInOrder (met : Visits) (place : ℕ) : Type 0 where
  pub rising : (j k : ℕ) (v w : Name) (a b : ℕ) → j ≤ k → slice_get met j ≡ Some (v, a) → slice_get met k ≡ Some (w, b) → a ≤ b
  pub so_far : (k : ℕ) (v : Name) (from : ℕ) → slice_get met k ≡ Some (v, from) → from ≤ place

-- each neighbour of a vertex before the place was met by that one or one before it
abbrev pub HasGoneRound : ProtectionGraph → Visits → ℕ → Type 0
HasGoneRound g met place = (k : ℕ) (v : Name) (from : ℕ) (w : Name) → k < place → slice_get met k ≡ Some (v, from) → IsTrue (linked g v w) → IsMetUpTo met k w

-- no vertex before the place holds the right over y
abbrev pub HasNoHolder : ProtectionGraph → Right → Name → Visits → ℕ → Type 0
HasNoHolder g right y met place = (k : ℕ) (v : Name) (from : ℕ) → k < place → slice_get met k ≡ Some (v, from) → g.holds v right y ≡ false

-- no vertex before the place holds the right over y, and the search has gone round each of them
pub record IsSearched (g : ProtectionGraph) (right : Right) (y : Name) (met : Visits) (place : ℕ) : Type 0 where
  pub none : HasNoHolder g right y met place
  pub round : HasGoneRound g met place

-- what was met is met, at the same place
pub record Grows (old new : Visits) : Type 0 where
  pub places : (k : ℕ) (visit : Name × ℕ) → slice_get old k ≡ Some visit → slice_get new k ≡ Some visit
  pub keys : (v : Name) → is_among v (keys_of old) → is_among v (keys_of new)

-- the vertex at the position joins the list, unless it was met
pub record AddsUnmet (vertices : List Name) (met : Visits) (position : ℕ) (old new : List Name) : Type 0 where
  pub kept : (v : Name) → is_among v old → is_among v new
  pub here : (v : Name) → slice_get vertices position ≡ Some v → is_among v (keys_of met) ⊎ is_among v new
  pub from : (v : Name) → is_among v new → is_among v old ⊎ (slice_get vertices position ≡ Some v)

-- the positions of the neighbours of u
abbrev pub AreNear : ProtectionGraph → Name → List ℕ → Type 0
AreNear g u near = (position : ℕ) (v : Name) → slice_get g.vertices position ≡ Some v → list_any (nat_eq position) near ≡ linked g u v

-- neighbours of u, among them those at the positions that were not met
pub record AreUnmetAt (g : ProtectionGraph) (met : Visits) (u : Name) (near : List ℕ) (names : List Name) : Type 0 where
  pub joined : (v : Name) → is_among v names → IsTrue (linked g u v)
  pub all : (position : ℕ) (v : Name) → list_any (nat_eq position) near ≡ true → slice_get g.vertices position ≡ Some v → is_among v (keys_of met) ⊎ is_among v names

-- neighbours of u, among them those that were not met
pub record AreUnmet (g : ProtectionGraph) (met : Visits) (u : Name) (names : List Name) : Type 0 where
  pub joined : (v : Name) → is_among v names → IsTrue (linked g u v)
  pub all : (v : Name) → IsTrue (linked g u v) → is_among v (keys_of met) ⊎ is_among v names

-- the search goes on from the place: what was met stays, and these are met
pub record Meets (g : ProtectionGraph) (place : ℕ) (old new : Visits) (names : List Name) : Type 0 where
  pub grows : Grows old new
  pub search : IsSearch g new
  pub order : IsInOrder new place
  pub there : (w : Name) → is_among w names → is_among w (keys_of new)

-- the search goes on from u at the place: what was met stays, and all of its neighbours are met
pub record GoesRound (g : ProtectionGraph) (place : ℕ) (u : Name) (old new : Visits) : Type 0 where
  pub grows : Grows old new
  pub search : IsSearch g new
  pub order : IsInOrder new place
  pub round : (w : Name) → IsTrue (linked g u w) → is_among w (keys_of new)

-- a breadth-first search from its start has gone round the first of those that it has met
pub record IsSearching (g : ProtectionGraph) (search : Search) : Type 0 where
  pub links : AreLinks g search.links
  pub is_search : IsSearch g search.met
  pub first : slice_get (keys_of search.met) 0 ≡ Some search.start
  pub order : IsInOrder search.met search.rounds
  pub round : HasGoneRound g search.met search.rounds

-- the search may have gone on, from the same start
pub record SearchesOn (g : ProtectionGraph) (old new : Search) : Type 0 where
  pub searching : IsSearching g new
  pub start : new.start ≡ old.start
  pub grows : Grows old.met new.met

-- each vertex linked to the next, from the one that holds the right over y to x, none twice, on a shortest way; no link if x holds it
pub record IsWay (g : ProtectionGraph) (right : Right) (x y holder : Name) (links : List Name) : Type 0 where
  pub held : IsTrue (g.holds holder right y)
  pub joined : IsChain g holder links x
  pub apart : NoRepeat (holder ∷ links)
  pub shortest : IsShortest g right x y links
  pub none : IsTrue (g.holds x right y) → links ≡ []
