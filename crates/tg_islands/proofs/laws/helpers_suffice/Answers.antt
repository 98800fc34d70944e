use Rattle.tg_islands.proofs.Helpers.{helpers_suffice}
use Rattle.tg_islands.proofs.laws.helpers_suffice.Goals as goal

pub returns : goal.returns
returns c = helpers_suffice
