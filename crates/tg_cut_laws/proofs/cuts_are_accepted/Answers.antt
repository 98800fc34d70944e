use Rattle.tg_cut_laws.proofs.AcceptedCuts.{cuts-accepted}
use Rattle.tg_cut_laws.proofs.cuts_are_accepted.Goals as goal

pub returns : goal.returns
returns c = cuts-accepted
