use Rattle.std.proofs.Common.{◌≤◌, ◌+◌, length, map, bytes_eq, subst}
use Rattle.std.specs.Vec.Iter.{into_iter_items}
use Rattle.indexmap.specs.IndexMap.{spare, insert_all}
use Rattle.tg_graph.specs.TakenRows.{entry_of}
use Rattle.tg_graph.proofs.Drafts.{room-first}
use Rattle.tg_graph.proofs.row_maps.put_all_taken.Goals as goal

pub put_taken-requires : goal.put_taken-requires
put_taken-requires c =
    let es = c.loop-moved.rows.entries in
    let moved = c.in-Some.moved in
    let room = subst (λ l. length (insert_all bytes_eq es (map entry_of l)) ≤ length es + spare c.loop-moved.rows) c.in-Some.ensures.steps.0 c.loop-moved.invariant.room in
    record { room = room-first es moved.name moved.row (map entry_of (into_iter_items c.next.new.self)) (spare c.loop-moved.rows) room }
