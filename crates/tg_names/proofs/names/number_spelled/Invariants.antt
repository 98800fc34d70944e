use Rattle.std.proofs.Common.{◌≡◌, take}
use Rattle.std.specs.Slice.Scan.{big_endian}
use Rattle.tg_names.proofs.names.number_spelled.Given as goal

abbrev pub invariant-loop-i : goal.invariant-loop-i
invariant-loop-i l = l.number ≡ big_endian 0 (take l.i l.bytes)
