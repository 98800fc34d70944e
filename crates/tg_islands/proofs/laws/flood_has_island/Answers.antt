use Rattle.tg_islands.proofs.Floods.{flood_has_island}
use Rattle.tg_islands.proofs.laws.flood_has_island.Goals as goal

pub returns : goal.returns
returns c = flood_has_island
