use Rattle.tg_cut_laws.proofs.OneCut.{one-cut}
use Rattle.tg_cut_laws.proofs.there_is_one_cut.Goals as goal

pub returns : goal.returns
returns c = one-cut
