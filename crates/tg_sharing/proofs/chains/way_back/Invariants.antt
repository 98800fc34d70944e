use Rattle.tg_sharing.specs.Searches.{GoesBack}
use Rattle.tg_sharing.proofs.chains.way_back.Given as goal

abbrev pub invariant-loop-step : goal.invariant-loop-step
invariant-loop-step l = GoesBack l.met l.fn.place l.way.items l.at

abbrev pub decreases-loop-step : goal.decreases-loop-step
decreases-loop-step l = l.at
