-- What a worker gathers: what the vertices between two positions hold, by the numbers of their islands.
use Rattle.std.specs.Prelude.{◌≡◌, ℕ, ◌<◌, ◌↔◌, IsTrue, Bool, List, length, ◌⊎◌}
use Rattle.tg_names.specs.declared.right_sets.Right.{Right}
use Rattle.tg_rows.specs.Rows.{Entries}
use Rattle.tg_islands.specs.Numbering.{AreCounted}
use Rattle.tg_index.specs.IslandEdges.{HasEdge, HasEdgeFrom}
use Rattle.tg_analysis.specs.Holdings.{holds_over}

-- islands hold as well what the edge at the place says
pub record TakesEdge (es : Entries) (numbers : List ℕ) (right : Right) (a place : ℕ) (old new : List (List Bool)) : Type 0 where
  pub len : length new ≡ length old
  pub held : (number b : ℕ) → IsTrue (holds_over new number b) ↔ (IsTrue (holds_over old number b) ⊎ HasEdge es numbers right number b a place)

-- islands hold as well what the first so many edges out of the vertex at a say
pub record TakesEdges (es : Entries) (numbers : List ℕ) (right : Right) (a count : ℕ) (old new : List (List Bool)) : Type 0 where
  pub len : length new ≡ length old
  pub held : (number b : ℕ) → IsTrue (holds_over new number b) ↔ (IsTrue (holds_over old number b) ⊎ ((place : ℕ) × (place < count) × HasEdge es numbers right number b a place))

-- each island holds exactly what the edges out of these vertices say
pub record Gathers (es : Entries) (numbers : List ℕ) (right : Right) (first last : ℕ) (holdings : List (List Bool)) : Type 0 where
  pub counted : AreCounted numbers (length holdings)
  pub held : (number b : ℕ) → IsTrue (holds_over holdings number b) ↔ HasEdgeFrom es numbers right first last number b
