use Rattle.tg_sharing.proofs.Parts.{one_right_alone}
use Rattle.tg_sharing.proofs.laws.one_right_alone.Goals as goal

pub returns : goal.returns
returns c = one_right_alone
