use Rattle.tg_analysis.specs.Gathered.{Gathers}
use Rattle.tg_analysis.proofs.gathering.gather.Given as goal

abbrev pub invariant-loop-position : goal.invariant-loop-position
invariant-loop-position l = Gathers l.graph l.islands l.right l.first l.position l.held
