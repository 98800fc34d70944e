use Rattle.tg_islands.proofs.AllHeld.{few_rules}
use Rattle.tg_islands.proofs.laws.few_rules.Goals as goal

pub returns : goal.returns
returns c = few_rules
