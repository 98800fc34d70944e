use Rattle.std.proofs.Common.{◌≤◌}
use Rattle.tg_cuts.proofs.losses.source_count.Given as goal

abbrev pub invariant-loop-position : goal.invariant-loop-position
invariant-loop-position l = l.count ≤ l.position
