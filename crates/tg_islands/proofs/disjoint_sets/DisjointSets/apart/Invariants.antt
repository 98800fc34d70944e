use Rattle.tg_islands.specs.DisjointSets.{AreApart}
use Rattle.tg_islands.proofs.disjoint_sets.DisjointSets.apart.Given as goal

abbrev pub invariant-loop-position : goal.invariant-loop-position
invariant-loop-position l = AreApart l.position l.apart
