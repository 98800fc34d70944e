use Rattle.std.proofs.Common.{◌≡◌, ◌≤◌, ◌+◌, length, bytes_eq}
use Rattle.indexmap.specs.IndexMap.{spare, insert_all}
use Rattle.tg_graph.proofs.row_maps.put_all.Given as goal

-- what is left leads to the same end, for which there is room
abbrev pub invariant-loop-name : goal.invariant-loop-name
invariant-loop-name l = record {
  left : insert_all bytes_eq l.rows.entries l.name-iterator ≡ insert_all bytes_eq l.fn.rows.entries l.fn.changes.entries;
  room : length (insert_all bytes_eq l.rows.entries l.name-iterator) ≤ length l.rows.entries + spare l.rows;
}
