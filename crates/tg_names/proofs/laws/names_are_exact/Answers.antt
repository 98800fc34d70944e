use Rattle.tg_names.proofs.NameLaws.{names_exactly}
use Rattle.tg_names.proofs.laws.names_are_exact.Goals as goal

pub returns : goal.returns
returns c = names_exactly
