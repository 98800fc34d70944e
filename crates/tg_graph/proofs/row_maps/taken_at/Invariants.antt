use Rattle.std.proofs.Common.{◌≡◌, map, take}
use Rattle.tg_graph.specs.Drafts.{entries_at}
use Rattle.tg_graph.specs.TakenRows.{entry_of}
use Rattle.tg_graph.proofs.row_maps.taken_at.Given as goal

abbrev pub invariant-loop-place : goal.invariant-loop-place
invariant-loop-place l = map entry_of l.taken.items ≡ entries_at l.rows.entries (take l.place-index l.places)
