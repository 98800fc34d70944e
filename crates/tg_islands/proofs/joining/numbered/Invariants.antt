use Rattle.tg_islands.specs.JoinedSets.{NumbersUpTo}
use Rattle.tg_islands.proofs.joining.numbered.Given as goal

abbrev pub invariant-loop-position : goal.invariant-loop-position
invariant-loop-position l = NumbersUpTo l.sets l.position l.numbers
