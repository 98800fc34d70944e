use Rattle.std.proofs.Common.{◌≡◌, take, length, vec_len}
use Rattle.std.specs.List.{AllZip}
use Rattle.std.specs.Vec.{vec_capacity}
use Rattle.tg_hall.specs.Worlds.{Run, IsSpared}
use Rattle.tg_hall.proofs.halls.Hall.run.Given as goal

abbrev pub invariant-loop-event : goal.invariant-loop-event
invariant-loop-event l = record {
  run : Run l.fn.self (take l.event-index l.events) l.replies.items l.self;
  spared : AllZip IsSpared (take l.event-index l.events) l.replies.items;
  noted : vec_len l.replies ≡ l.event-index;
  room : vec_capacity l.replies ≡ length l.events;
}
