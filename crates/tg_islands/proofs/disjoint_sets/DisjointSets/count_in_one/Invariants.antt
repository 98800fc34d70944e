use Rattle.std.proofs.Common.{◌-◌, length}
use Rattle.tg_islands.specs.DisjointSets.{AreInOne}
use Rattle.tg_islands.proofs.disjoint_sets.DisjointSets.count_in_one.Given as goal

abbrev pub invariant-loop-count : goal.invariant-loop-count
invariant-loop-count l = AreInOne l.self.sets.items l.count

abbrev pub decreases-loop-count : goal.decreases-loop-count
decreases-loop-count l = length l.self.sets.items - l.count
