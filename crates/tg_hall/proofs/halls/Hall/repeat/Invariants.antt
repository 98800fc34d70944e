use Rattle.std.proofs.Common.{◌+◌}
use Rattle.tg_hall.specs.Worlds.{seat_in}
use Rattle.tg_hall.proofs.RunLemmas.{Repeated, left_for, flag}
use Rattle.tg_hall.proofs.halls.Hall.repeat.Given as goal

abbrev pub invariant-loop-answer : goal.invariant-loop-answer
invariant-loop-answer l = Repeated l.fn.self l.event l.answer l.self

abbrev pub decreases-loop-answer : goal.decreases-loop-answer
decreases-loop-answer l = left_for l.self (seat_in l.event) + flag l.answer
