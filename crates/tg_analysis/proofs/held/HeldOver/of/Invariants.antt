use Rattle.std.proofs.Common.{◌≡◌, map}
use Rattle.std.specs.Map.Iter.{deref_pair}
use Rattle.tg_analysis.proofs.HeldEntries.{entry_of}
use Rattle.tg_analysis.proofs.held.HeldOver.of.Given as goal

abbrev pub invariant-loop-number : goal.invariant-loop-number
invariant-loop-number l = l.held.items ≡ map entry_of (map deref_pair l.yielded)
