use Rattle.std.proofs.Common.{◌≡◌, None, take}
use Rattle.tg_names.specs.Names.{first_bad, padded_to_16}
use Rattle.tg_names.proofs.names.front_of_few.Given as goal

abbrev pub invariant-loop-i : goal.invariant-loop-i
invariant-loop-i l = record { padded : l.padded ≡ padded_to_16 (take l.i l.bytes); fit : first_bad 0 (take l.i l.bytes) ≡ None }
