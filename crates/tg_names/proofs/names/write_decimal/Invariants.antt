use Rattle.std.proofs.Common.{◌≡◌, ◌≤◌, ◌++◌, drop}
use Rattle.std.specs.Fmt.{decimal}
use Rattle.tg_names.proofs.names.write_decimal.Given as goal

abbrev pub invariant-loop-left : goal.invariant-loop-left
invariant-loop-left l = record { in_range : l.start ≤ 11; rest : decimal l.number ≡ decimal l.left ++ drop l.start l.text }

abbrev pub decreases-loop-left : goal.decreases-loop-left
decreases-loop-left l = l.left
