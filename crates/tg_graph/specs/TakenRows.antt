-- Rows that are taken over from one map to another.
use Rattle.std.specs.Prelude.{ℕ, List}
use Rattle.tg_graph.specs.declared.row_maps.TakenRow.{TakenRow}
use Rattle.tg_rows.specs.Rows.{Edges}

-- the vertex with its row
abbrev pub entry_of : TakenRow → List ℕ × Edges
entry_of taken = (taken.name, taken.row)
