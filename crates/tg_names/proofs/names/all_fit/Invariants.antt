use Rattle.std.proofs.Common.{◌≡◌, true}
use Rattle.tg_names.specs.Names.{AllFit}
use Rattle.tg_names.proofs.names.all_fit.Given as goal

abbrev pub invariant-loop-i : goal.invariant-loop-i
invariant-loop-i l = l.fit ≡ true → AllFit l.bytes l.i
