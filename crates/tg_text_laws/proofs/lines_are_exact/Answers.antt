use Rattle.tg_text_laws.proofs.LineCuts.{lines_exactly}
use Rattle.tg_text_laws.proofs.lines_are_exact.Goals as goal

pub returns : goal.returns
returns c = lines_exactly
