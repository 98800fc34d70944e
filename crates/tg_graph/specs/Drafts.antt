-- Changed rows and new vertices laid over a graph.
use Rattle.std.specs.Prelude.{◌≡◌, ℕ, Bool, true, false, ◌||◌, List, [], ◌∷◌, ◌++◌, bytes_eq, Some, IfSome, MatchOption, filter, map, position, slice_get, ◌+◌, ◌↔◌}
use Rattle.std.specs.List.{list_any, filter_map, IsDistinct}
use Rattle.std.specs.Map.{keys_of, lookup}
use Rattle.indexmap.specs.IndexMap.{insert_entry, insert_all}
use Rattle.tg_graph.specs.declared.rules.Rule.{Rule}
use Rattle.tg_graph.specs.declared.rules.Rule.TheVariants.{Take, Grant, Create, Remove}
use Rattle.tg_names.specs.Names.{IsName, Name, same_name}
use Rattle.tg_graph.specs.Graphs.{SameGraph}
use Rattle.tg_graph.specs.GraphOf.{graph_of}
use Rattle.tg_rows.specs.Rows.{Edges, Entries, IsRow, has_edge, is_known}

-- the rows, each of a vertex that is changed or created, and the created vertices in order of creation
abbrev pub Changes : Type 0
Changes = Entries × List Name

abbrev pub is_created : Changes → Name → Bool
is_created changes v = list_any (same_name v) changes.1

-- the base with the rows put in, each in turn: a vertex that is there keeps its place and takes the row, and a new one goes last
abbrev pub laid_over : Entries → Changes → Entries
laid_over base changes = insert_all bytes_eq base changes.0

-- the rows at the positions, in turn; past the last there is none
abbrev pub entries_at : Entries → List ℕ → Entries
entries_at es positions = filter_map (slice_get es) positions

-- the base with the other's rows at the positions put in, each in turn
abbrev pub taken_over : Entries → Entries → List ℕ → Entries
taken_over base other positions = insert_all bytes_eq base (entries_at other positions)

-- at the positions stand the vertices of the changed rows, in the order of the rows
abbrev pub ArePositionsOf : Entries → Changes → List ℕ → Type 0
ArePositionsOf base changes positions = map (slice_get (keys_of (laid_over base changes))) positions ≡ map Some (keys_of changes.0)

-- noted after others is the position of the name among the vertices, or where it is none of them the next, which then is one more
abbrev pub NotesPosition : List Name → Name → ℕ → List ℕ → List ℕ → ℕ → Type 0
NotesPosition vertices name next old new later =
    MatchOption (position (same_name name) vertices) ((new ≡ old ++ next ∷ []) × (later ≡ next + 1)) (λ found. (new ≡ old ++ found ∷ []) × (later ≡ next))

-- the changes fit the base: laid over it they give its vertices and then the created ones, and each target of an edge is among them
pub record Fits (base : Entries) (changes : Changes) : Type 0 where
  pub vertices : keys_of (laid_over base changes) ≡ keys_of base ++ changes.1
  pub targets : (u v : Name) → has_edge changes.0 u v ≡ true → is_known (laid_over base changes) v ≡ true

-- the same by names: no created name is a vertex of the base, and each source and each target is a vertex there or created
pub record FitsByNames (base : Entries) (changes : Changes) : Type 0 where
  pub created : (v : Name) → is_created changes v ≡ true → is_known base v ≡ false
  pub sources : (u : Name) → is_known changes.0 u ≡ true → (is_known base u || is_created changes u) ≡ true
  pub targets : (u v : Name) → has_edge changes.0 u v ≡ true → (is_known base v || is_created changes v) ≡ true

-- no vertex twice, and each has a name and a row
pub record AreRows (entries : Entries) : Type 0 where
  pub apart : IsDistinct bytes_eq (keys_of entries)
  pub rows : (u : Name) → IfSome (lookup (bytes_eq u) entries) IsRow
  pub names : (v : Name) → is_known entries v ≡ true → IsName v

-- what each draft is: rows, and among their vertices the created ones, in that order
pub record IsDraft (changes : Changes) : Type 0 where
  pub rows : AreRows changes.0
  pub created : filter (is_created changes) (keys_of changes.0) ≡ changes.1

-- no vertex has a row in both
pub record AreApart (one other : Changes) : Type 0 where
  pub apart : (v : Name) → is_known one.0 v ≡ true → is_known other.0 v ≡ false

-- among the rows over the base, that of x is put in anew, and the fact P ties it to what it was
pub record PutsRow (P : Edges → Edges → Type 0) (base old new : Entries) (x : Name) : Type 0 where
  pub before : Edges
  pub after : Edges
  pub found : lookup (bytes_eq x) (insert_all bytes_eq base old) ≡ Some before
  pub put : new ≡ insert_entry bytes_eq old x after
  pub changed : P before after
  pub row : IsRow after

-- the names whose rows an accepted rule writes, in their order
abbrev pub written_by : Rule → List Name
written_by (Take x y z s) = x ∷ []
written_by (Grant x y z s) = y ∷ []
written_by (Create x n s) = x ∷ n ∷ []
written_by (Remove x y s) = x ∷ []

-- a draft fits a base by names exactly where it fits it
abbrev pub FittingIsByNames : Type 0
FittingIsByNames = (base : Entries) (changes : Changes) → IsDraft changes → Fits base changes ↔ FitsByNames base changes

-- drafts over one base that have no row in common: each fits what the other makes of the base
abbrev pub ApartFit : Type 0
ApartFit = (base : Entries) (one other : Changes) → IsDraft one → IsDraft other → AreApart one other → Fits base one → Fits (laid_over base other) one

-- and what both make of it is the same in either order
abbrev pub ApartCommute : Type 0
ApartCommute = (base : Entries) (one other : Changes) → IsDraft one → IsDraft other → AreApart one other → SameGraph (graph_of (laid_over (laid_over base other) one)) (graph_of (laid_over (laid_over base one) other))
