use Rattle.tg_analysis.specs.Gathered.{TakesEdges}
use Rattle.tg_analysis.proofs.gathering.add_row.Given as goal

abbrev pub invariant-loop-place : goal.invariant-loop-place
invariant-loop-place l = TakesEdges l.graph l.islands l.right l.position l.place l.initial.held l.held
