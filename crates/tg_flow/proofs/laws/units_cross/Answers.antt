use Rattle.tg_flow.proofs.Cuts.{units-cross}
use Rattle.tg_flow.proofs.laws.units_cross.Goals as goal

pub returns : goal.returns
returns c = units-cross
