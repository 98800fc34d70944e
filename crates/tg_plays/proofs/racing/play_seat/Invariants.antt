use Rattle.std.proofs.Common.{take}
use Rattle.tg_store.specs.Running.{IsOf}
use Rattle.tg_plays.specs.Races.{seat_at, events_of}
use Rattle.tg_plays.specs.RaceParts.{HasPlayedTurns}
use Rattle.tg_plays.proofs.racing.play_seat.Given as goal

abbrev pub invariant-loop-event : goal.invariant-loop-event
invariant-loop-event g l = record {
  played : HasPlayedTurns l.fn.seat (events_of l.number (take l.event-index l.events)) l.text.items l.player;
  kept : IsOf l.store (seat_at l.player);
}
