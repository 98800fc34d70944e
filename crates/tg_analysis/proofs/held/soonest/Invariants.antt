use Rattle.tg_analysis.specs.Cases.{IsClaim, IsSoonest}
use Rattle.tg_analysis.proofs.held.soonest.Given as goal

abbrev pub invariant-loop-index : goal.invariant-loop-index
invariant-loop-index l = IsSoonest (IsClaim l.entries l.places l.rights l.index) l.best
