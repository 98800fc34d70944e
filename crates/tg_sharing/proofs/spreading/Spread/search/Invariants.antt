use Rattle.std.proofs.Common.{IsTrue, ◌⊎◌}
use Rattle.tg_names.specs.Sets.{is_empty_set}
use Rattle.tg_sharing.specs.Spreading.{IsMissing, IsAtRest}
use Rattle.tg_sharing.proofs.spreading.Spread.search.Given as goal

abbrev pub invariant-loop-position : goal.invariant-loop-position
invariant-loop-position l =
    record {
      is_missing : IsMissing l.graph l.asked l.self.missing;
      rest : IsTrue (is_empty_set l.self.missing) ⊎ IsAtRest l.graph l.asked l.self.missing l.position l.self;
    }
