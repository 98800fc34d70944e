use Rattle.tg_islands.specs.DisjointSets.{AreInOne}
use Rattle.tg_islands.specs.JoinedSets.{JoinedUpTo}
use Rattle.tg_islands.proofs.joining.join_all.Given as goal

abbrev pub invariant-loop-position : goal.invariant-loop-position
invariant-loop-position l = record {
  joined : JoinedUpTo l.graph l.sets l.position 0;
  in_one : AreInOne l.sets.sets.items l.in_one;
}
