use Rattle.tg_plays.specs.RaceParts.{AreGathered}
use Rattle.tg_plays.proofs.racing.gather.Given as goal

abbrev pub invariant-loop-finished : goal.invariant-loop-finished
invariant-loop-finished l = AreGathered l.yielded l.text.items l.seats.items
