use Rattle.tg_cuts.specs.CutParts.{EdgesUpTo}
use Rattle.tg_cuts.proofs.network.put_row.Given as goal

abbrev pub invariant-loop-place : goal.invariant-loop-place
invariant-loop-place l = EdgesUpTo l.graph l.sought.right l.sought.y l.sought.kept.now l.position l.place l.network
