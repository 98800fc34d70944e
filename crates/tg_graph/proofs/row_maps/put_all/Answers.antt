use Rattle.std.proofs.Common.{◌≤◌, ◌+◌, length, bytes_eq, subst}
use Rattle.indexmap.specs.IndexMap.{spare, insert_all}
use Rattle.tg_graph.proofs.Drafts.{room-first}
use Rattle.tg_graph.proofs.row_maps.put_all.Goals as goal

pub put_taken-requires : goal.put_taken-requires
put_taken-requires c =
    let es = c.loop-name.rows.entries in
    let room = subst (λ l. length (insert_all bytes_eq es l) ≤ length es + spare c.loop-name.rows) c.in-Some.ensures.steps c.loop-name.invariant.room in
    record { room = room-first es c.in-Some.name c.in-Some.row c.next.new.self (spare c.loop-name.rows) room }
