use Rattle.tg_cuts.specs.CutParts.{EdgesUpTo}
use Rattle.tg_cuts.proofs.network.network_of.Given as goal

abbrev pub invariant-loop-position : goal.invariant-loop-position
invariant-loop-position l = EdgesUpTo l.graph l.sought.right l.sought.y l.sought.kept.now l.position 0 l.network
