use Rattle.std.proofs.Common.{◌≡◌, take}
use Rattle.tg_rows.proofs.edges_to_all.EdgesToAll.listed.Given as goal

abbrev pub invariant-loop-place : goal.invariant-loop-place
invariant-loop-place l = l.list ≡ take l.place l.self
