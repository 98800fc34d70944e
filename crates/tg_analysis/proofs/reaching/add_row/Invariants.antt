use Rattle.tg_analysis.specs.Reaching.{GainLabels}
use Rattle.tg_analysis.proofs.reaching.add_row.Given as goal

abbrev pub invariant-loop-place : goal.invariant-loop-place
invariant-loop-place l = GainLabels l.graph l.position l.place l.initial.sets.items l.sets.items
