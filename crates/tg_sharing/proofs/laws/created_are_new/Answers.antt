use Rattle.tg_sharing.proofs.Created.{created_are_new}
use Rattle.tg_sharing.proofs.laws.created_are_new.Goals as goal

pub returns : goal.returns
returns c = created_are_new
