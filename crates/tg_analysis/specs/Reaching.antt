-- Who can come to have rights over one vertex, and which rights one vertex can come to have over each.
use Rattle.std.specs.Prelude.{◌≡◌, ℕ, ◌<◌, ◌↔◌, Bool, true, false, ◌||◌, ◌&&◌, not, IsTrue, if◌then◌else◌, nat_eq, List, length, slice_get, slice_index_or, Option, Some, None, ◌⊎◌}
use Rattle.std.specs.Map.{keys_of}
use Rattle.tg_names.specs.declared.right_sets.Right.{Right}
use Rattle.tg_names.specs.declared.right_sets.Rights.{Rights}
use Rattle.tg_names.specs.Sets.{member, nothing, IsNamed}
use Rattle.tg_names.specs.Names.{Name}
use Rattle.tg_graph.specs.Graphs.{ProtectionGraph, has_vertex}
use Rattle.tg_rows.specs.Rows.{Entries, row_number, label_in}
use Rattle.tg_graph.specs.RuleLists.{CanShare, CanShareAll}
use Rattle.tg_islands.specs.declared.questions.AskFault.{AskFault}
use Rattle.tg_islands.specs.declared.questions.AskFault.TheVariants.{Unknown}
use Rattle.tg_islands.specs.Numbering.{AreCounted}
use Rattle.tg_index.specs.IslandEdges.{target_of, HasEdgeFrom}

-- the fault of a question about one name: it is no vertex
abbrev pub name_fault : ProtectionGraph → Name → Option AskFault
name_fault g v = if not (has_vertex g v) then Some (Unknown v) else None

-- there is a mark for each vertex, by position; it is true exactly where the vertex there can come to have every right of the set over y
pub record TellWho (g : ProtectionGraph) (rights : Rights) (y : Name) (marks : List Bool) : Type 0 where
  pub len : length marks ≡ length g.vertices
  pub yes : (a : ℕ) (x : Name) → slice_get g.vertices a ≡ Some x → (slice_get marks a ≡ Some true) ↔ CanShareAll g rights x y
  pub no : (a : ℕ) (x : Name) → slice_get g.vertices a ≡ Some x → slice_get marks a ≡ Some false → CanShareAll g rights x y → ⊥

-- there is a set of rights for each vertex, by position; it has exactly the rights that x can come to have over the vertex there, and no other bit
pub record TellReach (g : ProtectionGraph) (x : Name) (sets : List Rights) : Type 0 where
  pub len : length sets ≡ length g.vertices
  pub named : (a : ℕ) (s : Rights) → slice_get sets a ≡ Some s → IsNamed s
  pub yes : (a : ℕ) (y : Name) (s : Rights) (right : Right) → slice_get g.vertices a ≡ Some y → slice_get sets a ≡ Some s → IsTrue (member s right) ↔ CanShare g right x y
  pub no : (a : ℕ) (y : Name) (s : Rights) (right : Right) → slice_get g.vertices a ≡ Some y → slice_get sets a ≡ Some s → member s right ≡ false → CanShare g right x y → ⊥

-- the set at a place of a list, empty past its end
abbrev pub set_at : List Rights → ℕ → Rights
set_at sets place = slice_index_or sets place nothing

-- no set of the list has an unnamed bit
abbrev pub AreNamedSets : List Rights → Type 0
AreNamedSets sets = (place : ℕ) → IsNamed (set_at sets place)

-- the set at the place has the rights as well, and no other set changes
pub record GainsRights (place : ℕ) (rights : Rights) (old new : List Rights) : Type 0 where
  pub len : length new ≡ length old
  pub named : AreNamedSets new
  pub members : (a : ℕ) (right : Right) → member (set_at new a) right ≡ (member (set_at old a) right || (nat_eq a place && member rights right))

-- a vertex of the island with the number, in front of the position, holds the right over y
abbrev pub HoldsBefore : Entries → List ℕ → Right → ℕ → Name → ℕ → Type 0
HoldsBefore es numbers right number y position = (a : ℕ) × (a < position) × (slice_get numbers a ≡ Some number) × IsTrue (member (label_in (row_number es a) y) right)

-- for each island, by number, exactly the rights that its vertices in front of the position hold over y
pub record HoldUpTo (es : Entries) (numbers : List ℕ) (y : Name) (position : ℕ) (held : List Rights) : Type 0 where
  pub counted : AreCounted numbers (length held)
  pub named : AreNamedSets held
  pub members : (number : ℕ) (right : Right) → IsTrue (member (set_at held number) right) ↔ HoldsBefore es numbers right number y position

-- the first set has each right of the second
abbrev pub HasEach : Rights → Rights → Type 0
HasEach s rights = (right : Right) → IsTrue (member rights right) → IsTrue (member s right)

-- a mark for each position in front of this one: whether the island of the vertex there holds each right of the set
pub record MarkUpTo (numbers : List ℕ) (held : List Rights) (rights : Rights) (position : ℕ) (marks : List Bool) : Type 0 where
  pub len : length marks ≡ position
  pub exact : (a : ℕ) (mark : Bool) (number : ℕ) → slice_get marks a ≡ Some mark → slice_get numbers a ≡ Some number → IsTrue mark ↔ HasEach (set_at held number) rights

-- the set of the target has the label of the edge at the place as well, if there is one, and no other set changes
pub record GainsLabel (es : Entries) (a place : ℕ) (old new : List Rights) : Type 0 where
  pub len : length new ≡ length old
  pub named : AreNamedSets new
  pub members : (b : ℕ) (right : Right) → IsTrue (member (set_at new b) right) ↔ (IsTrue (member (set_at old b) right) ⊎ (target_of es right a place ≡ Some b))

-- the sets of the targets have the labels of the first so many edges out of the vertex at a as well
pub record GainLabels (es : Entries) (a count : ℕ) (old new : List Rights) : Type 0 where
  pub len : length new ≡ length old
  pub named : AreNamedSets new
  pub members : (b : ℕ) (right : Right) → IsTrue (member (set_at new b) right) ↔ (IsTrue (member (set_at old b) right) ⊎ ((place : ℕ) × (place < count) × (target_of es right a place ≡ Some b)))

-- for each vertex, by position, exactly the rights that the island with the number holds over it by the edges out of vertices in front of the position
pub record ReachUpTo (es : Entries) (numbers : List ℕ) (number position : ℕ) (sets : List Rights) : Type 0 where
  pub len : length sets ≡ length (keys_of es)
  pub named : AreNamedSets sets
  pub members : (b : ℕ) (right : Right) → IsTrue (member (set_at sets b) right) ↔ HasEdgeFrom es numbers right 0 position number b
