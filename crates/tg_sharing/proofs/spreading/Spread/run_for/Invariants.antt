use Rattle.tg_sharing.specs.Spreading.{IsMissing, GoesOn}
use Rattle.tg_sharing.proofs.spreading.Spread.run_for.Given as goal

abbrev pub invariant-loop : goal.invariant-loop
invariant-loop l =
    record {
      is_missing : IsMissing l.graph l.asked l.self.missing;
      goes_on : GoesOn l.graph l.asked l.self.missing l.initial.self l.self;
    }
