use Rattle.std.proofs.Common.{◌≡◌, take}
use Rattle.tg_rows.proofs.listed_edges.ListedEdges.put_in_turn.Given as goal

abbrev pub invariant-loop-place : goal.invariant-loop-place
invariant-loop-place l = l.list ≡ take l.place l.self
