use Rattle.tg_islands.proofs.StaysWell.{stays_well}
use Rattle.tg_islands.proofs.laws.stays_well.Goals as goal

pub returns : goal.returns
returns c = stays_well
