use Rattle.tg_analysis.specs.Reaching.{MarkUpTo}
use Rattle.tg_analysis.proofs.reaching.marks_of.Given as goal

abbrev pub invariant-loop-position : goal.invariant-loop-position
invariant-loop-position l = MarkUpTo l.islands l.held l.rights l.position l.marks.items
