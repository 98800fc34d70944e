use Rattle.tg_cut_laws.proofs.OneCut.{cuts-short}
use Rattle.tg_cut_laws.proofs.cuts_are_short.Goals as goal

pub returns : goal.returns
returns c = cuts-short
