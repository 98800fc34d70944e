use Rattle.tg_islands.proofs.NoOthers.{nothing_else}
use Rattle.tg_islands.proofs.laws.nothing_else.Goals as goal

pub returns : goal.returns
returns c = nothing_else
