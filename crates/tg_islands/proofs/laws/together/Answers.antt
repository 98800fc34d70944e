use Rattle.tg_islands.proofs.Together.{together}
use Rattle.tg_islands.proofs.laws.together.Goals as goal

pub returns : goal.returns
returns c = together
