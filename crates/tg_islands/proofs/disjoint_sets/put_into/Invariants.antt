use Rattle.std.proofs.Common.{take}
use Rattle.tg_islands.specs.DisjointSets.{PutsInto}
use Rattle.tg_islands.proofs.disjoint_sets.put_into.Given as goal

abbrev pub invariant-loop-position : goal.invariant-loop-position
invariant-loop-position l = PutsInto (take l.position-index l.positions) l.set l.initial.sets.items l.sets.items
