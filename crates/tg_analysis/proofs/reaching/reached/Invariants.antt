use Rattle.tg_analysis.specs.Reaching.{ReachUpTo}
use Rattle.tg_analysis.proofs.reaching.reached.Given as goal

abbrev pub invariant-loop-source : goal.invariant-loop-source
invariant-loop-source l = ReachUpTo l.graph l.islands l.number l.source l.sets.items
