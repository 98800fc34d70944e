use Rattle.std.proofs.Common.{◌≡◌, ◌≤◌, ◌+◌, length, map, bytes_eq}
use Rattle.std.specs.Vec.Iter.{into_iter_items}
use Rattle.indexmap.specs.IndexMap.{spare, insert_all}
use Rattle.tg_graph.specs.TakenRows.{entry_of}
use Rattle.tg_graph.proofs.row_maps.put_all_taken.Given as goal

-- what is left leads to the same end, for which there is room
abbrev pub invariant-loop-moved : goal.invariant-loop-moved
invariant-loop-moved l = record {
  left : insert_all bytes_eq l.rows.entries (map entry_of (into_iter_items l.moved-iterator)) ≡ insert_all bytes_eq l.fn.rows.entries (map entry_of l.fn.taken.items);
  room : length (insert_all bytes_eq l.rows.entries (map entry_of (into_iter_items l.moved-iterator))) ≤ length l.rows.entries + spare l.rows;
}
