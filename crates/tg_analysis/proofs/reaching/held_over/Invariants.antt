use Rattle.tg_analysis.specs.Reaching.{HoldUpTo}
use Rattle.tg_analysis.proofs.reaching.held_over.Given as goal

abbrev pub invariant-loop-position : goal.invariant-loop-position
invariant-loop-position l = HoldUpTo l.graph l.islands l.y l.position l.held.items
