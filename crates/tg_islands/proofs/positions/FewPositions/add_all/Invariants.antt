use Rattle.std.proofs.Common.{◌≡◌, ◌++◌, take}
use Rattle.tg_islands.proofs.positions.FewPositions.add_all.Given as goal

abbrev pub invariant-loop-position : goal.invariant-loop-position
invariant-loop-position l = l.self ≡ l.fn.self ++ take l.position-index l.positions
