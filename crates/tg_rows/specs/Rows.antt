-- The edges out of one vertex, and the vertices with their rows.
use Rattle.std.specs.Prelude.{◌≡◌, ℕ, ◌<◌, ◌≤◌, length, slice_index_or, Bool, true, false, ◌&&◌, ◌||◌, List, [], Option, Some, IfSome, unwrap_or, cond, bytes_eq, is_some, not, slice_get}
use Rattle.std.specs.Option.{option_map_or}
use Rattle.std.specs.List.{list_any, IsDistinct}
use Rattle.std.specs.Map.{lookup, keys_of, set_value}
use Rattle.std.specs.Ordering.{nat_cmp}
use Rattle.std.specs.List.Sorted.{IsStrictlySortedBy}
use Rattle.std.specs.Cmp.Lexicographic.{slice_cmp}
use Rattle.std.specs.declared.cmp.Ordering.TheVariants.{Less, Greater}
use Rattle.tg_names.specs.declared.right_sets.Right.{Right}
use Rattle.tg_names.specs.declared.right_sets.Rights.{Rights}
use Rattle.tg_names.specs.Names.{IsName}
use Rattle.tg_names.specs.Sets.{member, nothing, IsNamed}

-- the targets of the edges with their labels
abbrev pub Edges : Type 0
Edges = List (List ℕ × Rights)

-- the vertices with their rows
abbrev pub Entries : Type 0
Entries = List (List ℕ × Edges)

-- the label of the edge to v
abbrev pub label_in : Edges → List ℕ → Rights
label_in row v = unwrap_or (lookup (bytes_eq v) row) nothing

-- the label of the edge from u to v
abbrev pub label_of : Entries → List ℕ → List ℕ → Rights
label_of es u v = option_map_or (λ row. label_in row v) (lookup (bytes_eq u) es) nothing

-- a label of an edge: not empty, and with no unnamed bit
pub record IsLabel (s : Rights) : Type 0 where
  pub some : 0 < s.0
  pub named : IsNamed s

abbrev pub is_known : Entries → List ℕ → Bool
is_known es v = list_any (bytes_eq v) (keys_of es)

-- the label at each target but y stays, and y has w (None: no edge)
abbrev pub Puts : Edges → Edges → List ℕ → Option Rights → Type 0
Puts old new y w = (v : List ℕ) → lookup (bytes_eq v) new ≡ cond (bytes_eq y v) w (lookup (bytes_eq v) old)

-- each edge has a label
abbrev pub AreLabelled : Edges → Type 0
AreLabelled row = (v : List ℕ) → IfSome (lookup (bytes_eq v) row) IsLabel

-- the edges out of one vertex: in strict name order, each with a label
pub record IsRow (row : Edges) : Type 0 where
  pub sorted : IsStrictlySortedBy (slice_cmp nat_cmp) (keys_of row)
  pub labelled : AreLabelled row

-- the edge to v stands at the place
pub record IsPlaceOf (row : Edges) (v : List ℕ) (place : ℕ) : Type 0 where
  pub in_range : place < length row
  pub target : (d : List ℕ × Rights) → (slice_index_or row place d).0 ≡ v

-- each target in front of the place is below v
abbrev pub AreBelow : Edges → List ℕ → ℕ → Type 0
AreBelow row v place = (k : ℕ) (d : List ℕ × Rights) → k < place → slice_cmp nat_cmp (slice_index_or row k d).0 v ≡ Less

-- each target from the place on is above v
abbrev pub AreAbove : Edges → List ℕ → ℕ → Type 0
AreAbove row v place = (k : ℕ) (d : List ℕ × Rights) → place ≤ k → k < length row → slice_cmp nat_cmp (slice_index_or row k d).0 v ≡ Greater

-- an edge to v would go to the place: lesser targets before it, and greater ones from it on
pub record IsGapFor (row : Edges) (v : List ℕ) (place : ℕ) : Type 0 where
  pub in_range : place ≤ length row
  pub lesser : (k : ℕ) (d : List ℕ × Rights) → k < place → slice_cmp nat_cmp (slice_index_or row k d).0 v ≡ Less
  pub greater : (k : ℕ) (d : List ℕ × Rights) → place ≤ k → k < length row → slice_cmp nat_cmp (slice_index_or row k d).0 v ≡ Greater

abbrev pub is_target : Edges → List ℕ → Bool
is_target row v = is_some (lookup (bytes_eq v) row)

-- the rights of s are added to the label at y
pub record Adds (old new : Edges) (y : List ℕ) (s : Rights) : Type 0 where
  pub members : (v : List ℕ) (right : Right) → member (label_in new v) right ≡ (member (label_in old v) right || (bytes_eq v y && member s right))
  pub targets : (v : List ℕ) → is_target new v ≡ true → (is_target old v || bytes_eq v y) ≡ true

-- the rights of s are taken out of the label at y
pub record TakesAway (old new : Edges) (y : List ℕ) (s : Rights) : Type 0 where
  pub members : (v : List ℕ) (right : Right) → member (label_in new v) right ≡ (member (label_in old v) right && not (bytes_eq v y && member s right))
  pub targets : (v : List ℕ) → is_target new v ≡ true → is_target old v ≡ true

-- the edge from u to v is there
abbrev pub has_edge : Entries → List ℕ → List ℕ → Bool
has_edge es u v = option_map_or (λ row. is_target row v) (lookup (bytes_eq u) es) false

-- the vertices with their rows: no vertex twice, each target a vertex, each row a row
pub record IsGraph (es : Entries) : Type 0 where
  pub apart : IsDistinct bytes_eq (keys_of es)
  pub known : (u v : List ℕ) → has_edge es u v ≡ true → is_known es v ≡ true
  pub rows : (u : List ℕ) → IfSome (lookup (bytes_eq u) es) IsRow
  pub names : (v : List ℕ) → is_known es v ≡ true → IsName v

-- the row of x changes to one that the fact P ties to it
pub record ChangesRow (P : Edges → Edges → Type 0) (old new : Entries) (x : List ℕ) : Type 0 where
  pub before : Edges
  pub after : Edges
  pub found : lookup (bytes_eq x) old ≡ Some before
  pub put : new ≡ set_value (bytes_eq x) old after
  pub changed : P before after
  pub row : IsRow after

-- the edges out of the vertex at the position, none past the end
abbrev pub row_number : Entries → ℕ → Edges
row_number es i = option_map_or (λ e. e.1) (slice_get es i) []
