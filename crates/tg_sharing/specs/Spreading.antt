-- A flood from one vertex that looks for holders of rights.
use Rattle.std.specs.Prelude.{◌≡◌, ℕ, ◌<◌, ◌+◌, Bool, true, false, IsTrue, List, [], ◌∷◌, length, replicate, slice_get, Some, None, is_some, ◌⊎◌}
use Rattle.std.specs.Map.{keys_of}
use Rattle.tg_names.specs.declared.right_sets.Right.{Right}
use Rattle.tg_names.specs.declared.right_sets.Rights.{Rights}
use Rattle.tg_names.specs.Sets.{member, IsNamed}
use Rattle.tg_names.specs.Names.{Name}
use Rattle.tg_graph.specs.Graphs.{ProtectionGraph}
use Rattle.tg_graph.specs.GraphOf.{graph_of}
use Rattle.tg_rows.specs.Rows.{Entries, row_number}
use Rattle.tg_sharing.specs.declared.flooding.Flood.{Flood}
use Rattle.tg_sharing.specs.declared.spreading.Asked.{Asked}
use Rattle.tg_sharing.specs.declared.spreading.Spread.{Spread}
use Rattle.tg_islands.specs.Sharing.{InOneIsland, HeldInIsland}
use Rattle.tg_islands.specs.Linked.{neighbours, is_near, linked_end, AddsNeighbour}
use Rattle.tg_sharing.specs.Flooding.{number_at, work_left, Meets, MeetsEnds}
use Rattle.tg_islands.specs.Positions.{IsOneOf}

abbrev pub IsMet : Spread → ℕ → Type 0
IsMet spread a = is_some (number_at spread.flood a) ≡ true

-- the vertex at the position holds the right over y
pub record HoldsAt (g : ProtectionGraph) (right : Right) (y : Name) (a : ℕ) : Type 0 where
  pub name : Name
  pub place : slice_get g.vertices a ≡ Some name
  pub holds : IsTrue (g.holds name right y)

-- the vertex at the position holds no right of the set over y
abbrev pub HoldsNone : ProtectionGraph → Rights → Name → ℕ → Type 0
HoldsNone g s y a = (right : Right) → IsTrue (member s right) → HoldsAt g right y a → ⊥

-- the rights are of the set that is asked for, and x's island holds the others of that set
pub record IsMissing (es : Entries) (asked : Asked) (missing : Rights) : Type 0 where
  pub named : IsNamed missing
  pub among : (right : Right) → IsTrue (member missing right) → IsTrue (member asked.rights right)
  pub found : (right : Right) → IsTrue (member asked.rights right) → IsTrue (member missing right) ⊎ HeldInIsland (graph_of es) right asked.x asked.y

-- x's island holds each right that is asked for
abbrev pub AreHeldInIsland : Entries → Asked → Type 0
AreHeldInIsland es asked = (right : Right) → IsTrue (member asked.rights right) → HeldInIsland (graph_of es) right asked.x asked.y

-- the start alone was met, and waits, and all the rights are missing
pub record BeginsAt (count start : ℕ) (rights : Rights) (spread : Spread) : Type 0 where
  pub before : Flood
  pub clear : before.numbers.items ≡ replicate count None
  pub calm : before.waiting.items ≡ []
  pub meets : Meets (start ∷ []) before spread.flood
  pub back : spread.back ≡ []
  pub followed : spread.followed ≡ 0
  pub missing : spread.missing ≡ rights

-- what is linked to the position was met, by its row and by its list
pub record Follows (es : Entries) (a : ℕ) (old new : Spread) : Type 0 where
  pub between : Flood
  pub ahead : MeetsEnds es a (length (row_number es a)) old.flood between
  pub behind : Meets (neighbours old.back a) between new.flood
  pub back : new.back ≡ old.back
  pub followed : new.followed ≡ old.followed
  pub missing : new.missing ≡ old.missing

-- so, or each position was met before
abbrev pub FollowsOn : Entries → ℕ → Spread → Spread → Type 0
FollowsOn es a old new = Follows es a old new ⊎ (((b : ℕ) → b < length (keys_of es) → IsMet old b) × (new ≡ old))

-- the edge leads to a position that was met, or it joins the list of its end, if it links
abbrev pub ReadsEdge : Entries → ℕ → ℕ → Bool → Spread → Spread → Type 0
ReadsEdge es a place true old new = (b : ℕ) × (linked_end es a place ≡ Some b) × IsMet old b × (new ≡ old)
ReadsEdge es a place false old new =
    (new.flood ≡ old.flood) × (new.followed ≡ old.followed) × (new.missing ≡ old.missing)
    × ((b : ℕ) → linked_end es a place ≡ Some b → (IsMet old b → ⊥) × AddsNeighbour old.back new.back b a)
    × (linked_end es a place ≡ None → new.back ≡ old.back)

-- the linking edges of the row, up to a place, have joined the lists of their ends, none of which was met
pub record ReadsUpTo (es : Entries) (a here : ℕ) (old new : Spread) : Type 0 where
  pub flood : new.flood ≡ old.flood
  pub followed : new.followed ≡ old.followed
  pub missing : new.missing ≡ old.missing
  pub len : length new.back ≡ length old.back
  pub kept : (b c : ℕ) → is_near old.back b c ≡ true → is_near new.back b c ≡ true
  pub from : (b c : ℕ) → is_near new.back b c ≡ true → (is_near old.back b c ≡ true) ⊎ ((c ≡ a) × (IsMet old b → ⊥) × (place : ℕ) × (linked_end es a place ≡ Some b))
  pub there : (place b : ℕ) → place < here → linked_end es a place ≡ Some b → is_near new.back b a ≡ true

-- an edge links the position to one that was met, and so it was met
pub record ReadsMet (es : Entries) (a : ℕ) (old new : Spread) : Type 0 where
  pub here : ℕ
  pub between : Spread
  pub reads : ReadsUpTo es a here old between
  pub end : ℕ
  pub edge : linked_end es a here ≡ Some end
  pub met : IsMet old end
  pub meets : Meets (a ∷ []) between.flood new.flood
  pub back : new.back ≡ between.back
  pub followed : new.followed ≡ between.followed
  pub missing : new.missing ≡ between.missing

abbrev pub Reads : Entries → ℕ → Spread → Spread → Type 0
Reads es a old new = ReadsUpTo es a (length (row_number es a)) old new ⊎ ReadsMet es a old new

-- what was met lies in x's island; what was met and is not pending holds no missing right, and what is linked to it, ahead or by its list, was met
pub record IsSpread (es : Entries) (asked : Asked) (missing : Rights) (pending : List ℕ) (spread : Spread) : Type 0 where
  pub len : length spread.flood.numbers.items ≡ length (keys_of es)
  pub count : work_left spread.flood + spread.followed ≡ length (keys_of es)
  pub back_from : (a b : ℕ) → is_near spread.back b a ≡ true → (place : ℕ) × (linked_end es a place ≡ Some b)
  pub inside : (a : ℕ) (u : Name) → slice_get (keys_of es) a ≡ Some u → IsMet spread a → InOneIsland (graph_of es) asked.x u
  pub start : (a : ℕ) → slice_get (keys_of es) a ≡ Some asked.x → IsMet spread a
  pub pends : (a : ℕ) → IsOneOf a pending → IsMet spread a
  pub none : (a : ℕ) → IsMet spread a → IsOneOf a pending ⊎ HoldsNone (graph_of es) missing asked.y a
  pub ahead : (a place b : ℕ) → IsMet spread a → linked_end es a place ≡ Some b → IsOneOf a pending ⊎ IsMet spread b
  pub behind : (a b : ℕ) → IsMet spread b → is_near spread.back b a ≡ true → IsOneOf b pending ⊎ IsMet spread a

-- the edges of the rows before the position stand in the lists, or their sources were met
abbrev pub HasRead : Entries → ℕ → Spread → Type 0
HasRead es i spread = (a place b : ℕ) → a < i → linked_end es a place ≡ Some b → IsMet spread a ⊎ (is_near spread.back b a ≡ true)

-- nothing waits, and the rows before the position were read or followed
pub record IsAtRest (es : Entries) (asked : Asked) (missing : Rights) (i : ℕ) (spread : Spread) : Type 0 where
  pub is_spread : IsSpread es asked missing [] spread
  pub back_len : length spread.back ≡ length (keys_of es)
  pub calm : spread.flood.waiting.items ≡ []
  pub read : HasRead es i spread

-- the flood came to its end
pub record RunsOut (es : Entries) (asked : Asked) (missing : Rights) (old new : Spread) : Type 0 where
  pub is_spread : IsSpread es asked missing [] new
  pub calm : new.flood.waiting.items ≡ []
  pub back : new.back ≡ old.back
  pub grows : (a : ℕ) → IsMet old a → IsMet new a

-- some positions were taken up, and the flood may go on
pub record GoesOn (es : Entries) (asked : Asked) (missing : Rights) (old new : Spread) : Type 0 where
  pub is_spread : IsSpread es asked missing new.flood.waiting.items new
  pub back : new.back ≡ old.back
  pub grows : (a : ℕ) → IsMet old a → IsMet new a

-- one position more was taken up, and the flood goes on
pub record StepsOn (es : Entries) (asked : Asked) (old new : Spread) : Type 0 where
  pub is_spread : IsSpread es asked new.missing new.flood.waiting.items new
  pub followed : new.followed ≡ old.followed + 1
  pub back : new.back ≡ old.back
  pub grows : (a : ℕ) → IsMet old a → IsMet new a
