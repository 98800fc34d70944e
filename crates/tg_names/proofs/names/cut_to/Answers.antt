use Rattle.tg_names.proofs.NameLanes.{front_padded}
use Rattle.tg_names.proofs.names.cut_to.Goals as goal

pub returns : goal.returns
returns c = front_padded c.args.bytes.now c.args.len c.told-bytes c.requires
