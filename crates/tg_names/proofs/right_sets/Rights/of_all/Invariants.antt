use Rattle.std.proofs.Common.{◌≡◌, Some, drop}
use Rattle.tg_names.specs.Letters.{with_letters}
use Rattle.tg_names.specs.Sets.{IsNamed, nothing}
use Rattle.tg_names.proofs.right_sets.Rights.of_all.Given as goal

abbrev pub invariant-loop-letter : goal.invariant-loop-letter
invariant-loop-letter l = (with_letters (Some nothing) l.letters ≡ with_letters (Some l.rights) (drop l.letter-index l.letters)) × IsNamed l.rights
