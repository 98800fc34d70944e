use Rattle.std.proofs.Common.{◌≡◌, drop}
use Rattle.std.specs.Prelude.{find}
use Rattle.tg_hall.specs.Touches.{touches}
use Rattle.tg_hall.specs.Told.{all_told_writes}
use Rattle.tg_hall.proofs.spoilers.told_spoiler.Given as goal

abbrev pub invariant-loop-answered : goal.invariant-loop-answered
invariant-loop-answered l = find (touches l.session) (all_told_writes (drop l.answered-index l.committed)) ≡ find (touches l.session) (all_told_writes l.committed)
