use Rattle.tg_sharing.proofs.Derived.{derivations_are_short}
use Rattle.tg_sharing.proofs.laws.derivations_are_short.Goals as goal

pub returns : goal.returns
returns c = derivations_are_short
