use Rattle.tg_cuts.proofs.LossRules.{SourcesUpTo}
use Rattle.tg_cuts.proofs.losses.sources_in_order.Given as goal

abbrev pub invariant-loop-position : goal.invariant-loop-position
invariant-loop-position l = SourcesUpTo l.graph l.position l.names.items
