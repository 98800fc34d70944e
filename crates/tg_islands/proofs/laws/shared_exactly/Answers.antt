use Rattle.tg_islands.proofs.AllHeld.{shared_exactly}
use Rattle.tg_islands.proofs.laws.shared_exactly.Goals as goal

pub returns : goal.returns
returns c = shared_exactly
