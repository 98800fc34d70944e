-- Where the records of a history wrote.
use Rattle.std.specs.Prelude.{◌≡◌, ℕ, ◌+◌, ◌<◌, ◌≤◌, false, List, [], ◌∷◌, ◌++◌, All, length, take, drop, slice_get, slice_set, Some, bytes_eq, vec_len}
use Rattle.std.specs.List.{list_any, filter_map}
use Rattle.std.specs.Vec.{vec_capacity}
use Rattle.indexmap.specs.IndexSet.{insert_all as insert_all_keys}
use Rattle.tg_names.specs.declared.right_sets.Right.{Right}
use Rattle.tg_names.specs.Names.{Name, same_name}
use Rattle.tg_graph.specs.Graphs.{ProtectionGraph}
use Rattle.tg_graph.specs.GraphOf.{graph_of}
use Rattle.tg_hall.specs.declared.records.Record.{Record}
use Rattle.tg_hall.specs.declared.trails.Trail.{Trail}
use Rattle.tg_hall.specs.declared.seats.SeatState.{SeatState}
use Rattle.tg_hall.specs.Histories.{replay}

-- the vertices at the positions, in turn
abbrev pub vertices_at : ProtectionGraph → List ℕ → List Name
vertices_at g positions = filter_map (slice_get g.vertices) positions

-- what was written on the way from one graph to the other is among these names: they make its vertices those of the other, and each vertex that is none of them has the same rights in both
pub record LeadsBy (g : ProtectionGraph) (names : List Name) (h : ProtectionGraph) : Type 0 where
  pub vertices : insert_all_keys bytes_eq g.vertices names ≡ h.vertices
  pub others : (u : Name) (right : Right) (v : Name) → list_any (same_name u) names ≡ false → g.holds u right v ≡ h.holds u right v

-- from the start on stand positions of the last graph whose vertices lead to it
pub record IsStart (g last : ProtectionGraph) (positions : List ℕ) (start : ℕ) : Type 0 where
  pub within : start ≤ length positions
  pub leads : LeadsBy g (vertices_at last (drop start positions)) last

-- the positions are of the last graph, and each record has its start among them: what was written from that record on
pub record IsTrail (g : ProtectionGraph) (history : List Record) (trail : Trail) : Type 0 where
  pub one_each : length trail.starts.items ≡ length history
  pub positions : All (λ p. p < length (replay g history).vertices) trail.positions.items
  pub starts : (k start : ℕ) → slice_get trail.starts.items k ≡ Some start → IsStart (replay g (take k history)) (replay g history) trail.positions.items start

-- one record more, with these positions
pub record Notes (old : Trail) (positions : List ℕ) (new : Trail) : Type 0 where
  pub positions_after : new.positions.items ≡ old.positions.items ++ positions
  pub starts_after : new.starts.items ≡ old.starts.items ++ length old.positions.items ∷ []

-- room for one record more, with so many positions
pub record HasRoom (trail : Trail) (count : ℕ) : Type 0 where
  pub positions : vec_len trail.positions + count ≤ vec_capacity trail.positions
  pub starts : vec_len trail.starts + 1 ≤ vec_capacity trail.starts

-- the same positions and starts
pub record SameTrail (old new : Trail) : Type 0 where
  pub positions : new.positions.items ≡ old.positions.items
  pub starts : new.starts.items ≡ old.starts.items

-- the seat at an index has come to where another seat stands
pub record TakesOver (old : List SeatState) (index other : ℕ) (new : List SeatState) : Type 0 where
  pub seat : SeatState
  pub source : SeatState
  pub after : SeatState
  pub seat_is : slice_get old index ≡ Some seat
  pub source_is : slice_get old other ≡ Some source
  pub set : new ≡ slice_set old index after
  pub taken : after.taken ≡ source.taken
  pub graph : graph_of after.graph ≡ graph_of source.graph
  pub commits : after.commits ≡ seat.commits
  pub session : after.session ≡ seat.session
