use Rattle.std.proofs.Common.{◌≡◌, ℕ}
use Rattle.tg_sharing.specs.Flooding.{work_left}
use Rattle.tg_sharing.specs.Spreading.{IsMet, IsMissing, IsSpread}
use Rattle.tg_sharing.proofs.spreading.Spread.run.Given as goal

abbrev pub invariant-loop : goal.invariant-loop
invariant-loop l =
    record {
      is_missing : IsMissing l.graph l.asked l.self.missing;
      is_spread : IsSpread l.graph l.asked l.self.missing l.self.flood.waiting.items l.self;
      back : l.self.back ≡ l.initial.self.back;
      grows : (a : ℕ) → IsMet l.initial.self a → IsMet l.self a;
    }

abbrev pub decreases-loop : goal.decreases-loop
decreases-loop l = work_left l.self.flood
