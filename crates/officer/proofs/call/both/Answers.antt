use Rattle.std.proofs.Common.{sym}
use Rattle.officer.proofs.DealingLemmas.{both_read}
use Rattle.officer.proofs.call.both.Goals as goal

pub returns-in-Ok : goal.returns-in-Ok
returns-in-Ok g c = both_read _ _ _ _ _ _ _ _ _ c.file.ensures (sym c.in-Ok.ensures) c.file-in-Ok.ensures c.beside.ensures
