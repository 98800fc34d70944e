use Rattle.tg_sharing.proofs.Parts.{derivations_of_all_are_short}
use Rattle.tg_sharing.proofs.laws.derivations_of_all_are_short.Goals as goal

pub returns : goal.returns
returns c = derivations_of_all_are_short
