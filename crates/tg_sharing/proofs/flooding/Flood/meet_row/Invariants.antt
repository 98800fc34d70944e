use Rattle.tg_sharing.specs.Flooding.{MeetsEnds}
use Rattle.tg_sharing.proofs.flooding.Flood.meet_row.Given as goal

abbrev pub invariant-loop-place : goal.invariant-loop-place
invariant-loop-place l = MeetsEnds l.graph l.position l.place l.initial.self l.self
