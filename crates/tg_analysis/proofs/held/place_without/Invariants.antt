use Rattle.tg_analysis.proofs.Claims.{NoneWithout}
use Rattle.tg_analysis.proofs.held.place_without.Given as goal

abbrev pub invariant-loop-index : goal.invariant-loop-index
invariant-loop-index l = NoneWithout l.entries l.numbers l.places l.right l.index
