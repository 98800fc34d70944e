use Rattle.std.proofs.Common.{take}
use Rattle.tg_store.specs.Running.{IsSeat, GoesOn, PutsNothing}
use Rattle.tg_plays.specs.RaceParts.{MeetsAll}
use Rattle.tg_plays.proofs.racing.meet_all.Given as goal

abbrev pub invariant-loop-other : goal.invariant-loop-other
invariant-loop-other l = record {
  goes_on : GoesOn l.fn.seat l.seat;
  nothing_put : PutsNothing l.fn.seat l.seat;
  seat : IsSeat l.seat;
  met : MeetsAll l.fn.seat (take l.other-index l.others) l.seat;
}
