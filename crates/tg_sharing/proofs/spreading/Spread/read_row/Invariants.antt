use Rattle.tg_sharing.specs.Spreading.{ReadsUpTo}
use Rattle.tg_sharing.proofs.spreading.Spread.read_row.Given as goal

abbrev pub invariant-loop-place : goal.invariant-loop-place
invariant-loop-place l = ReadsUpTo l.graph l.position l.place l.initial.self l.self
