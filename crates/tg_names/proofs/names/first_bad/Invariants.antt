use Rattle.std.proofs.Common.{◌≡◌, drop}
use Rattle.tg_names.specs.Names.{first_bad}
use Rattle.tg_names.proofs.names.first_bad.Given as goal

abbrev pub invariant-loop-i : goal.invariant-loop-i
invariant-loop-i l = first_bad 0 l.bytes ≡ first_bad l.i (drop l.i l.bytes)
