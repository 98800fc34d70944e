use Rattle.std.proofs.Common.{◌≡◌, take, length}
use Rattle.tg_plays.specs.Runs.{Plays}
use Rattle.tg_plays.proofs.running.play_all.Given as goal

abbrev pub invariant-loop-event : goal.invariant-loop-event
invariant-loop-event l = record {
  plays : Plays l.fn.hall (take l.event-index l.events) l.text.items l.hall;
  seats : length l.hall.seats ≡ length l.fn.hall.seats;
}
