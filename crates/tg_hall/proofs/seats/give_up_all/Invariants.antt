use Rattle.std.proofs.Common.{◌≡◌, ◌++◌, map, take, drop}
use Rattle.tg_hall.specs.Seats.{given_up}
use Rattle.tg_hall.proofs.seats.give_up_all.Given as goal

abbrev pub invariant-loop-at : goal.invariant-loop-at
invariant-loop-at l = l.seats ≡ map given_up (take l.at l.fn.seats) ++ drop l.at l.fn.seats
