use Rattle.tg_analysis.specs.Cases.{JoinsUpTo}
use Rattle.tg_analysis.proofs.held.joined.Given as goal

abbrev pub invariant-loop-index : goal.invariant-loop-index
invariant-loop-index l = JoinsUpTo l.entries l.index l.held
