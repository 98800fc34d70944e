use Rattle.tg_analysis.proofs.Claims.{NoneLacks}
use Rattle.tg_analysis.proofs.held.soonest_without.Given as goal

abbrev pub invariant-loop-right : goal.invariant-loop-right
invariant-loop-right l = NoneLacks l.entries l.numbers l.rights l.right-index
