use Rattle.tg_flow.proofs.Cuts.{sides-part}
use Rattle.tg_flow.proofs.laws.sides_part.Goals as goal

pub returns : goal.returns
returns c = sides-part
