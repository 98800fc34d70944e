-- Edges with a right: where they lead, and out of which island.
use Rattle.std.specs.Prelude.{◌≡◌, ℕ, ◌<◌, ◌≤◌, cond, List, bytes_eq, slice_get, position, Option, Some, None}
use Rattle.std.specs.Map.{keys_of}
use Rattle.std.specs.Option.{option_and_then}
use Rattle.tg_names.specs.declared.right_sets.Right.{Right}
use Rattle.tg_names.specs.Sets.{member}
use Rattle.tg_rows.specs.Rows.{Entries, row_number}

-- the position of the target of an edge, if its label has the right
abbrev pub target_of : Entries → Right → ℕ → ℕ → Option ℕ
target_of es right a place = option_and_then (λ edge. cond (member edge.1 right) (position (bytes_eq edge.0) (keys_of es)) None) (slice_get (row_number es a) place)

-- the vertex at a is of the island with the number, and its edge at the place has the right, over the vertex at b
pub record HasEdge (es : Entries) (numbers : List ℕ) (right : Right) (number b a place : ℕ) : Type 0 where
  pub of : slice_get numbers a ≡ Some number
  pub leads : target_of es right a place ≡ Some b

-- an edge out of a vertex from the first position up to the last, that one excluded, says that the island holds the right over b
pub record HasEdgeFrom (es : Entries) (numbers : List ℕ) (right : Right) (first last number b : ℕ) : Type 0 where
  pub a : ℕ
  pub place : ℕ
  pub from : first ≤ a
  pub before : a < last
  pub edge : HasEdge es numbers right number b a place
