use Rattle.std.proofs.Common.{◌==◌}
use Rattle.tg_plays.proofs.RaceTurns.{played-more, turn_if-still_of}
use Rattle.tg_plays.proofs.racing.play_seat.Goals as goal

pub loop-event-preserved : goal.loop-event-preserved
loop-event-preserved g c =
    let now = c.loop-event in
    let number = c.number-number.result in
    let event = c.event-item.result in
    let next = c.in_ok-player.player in
    let text = c.play_if_own.new.text.items in
    record {
      played = played-more c.args.seat number c.args.events.now now.event-index now.player next event now.text.items text c.loop-event-test.true c.event-item.is now.invariant.played c.in_ok-player.ensures;
      kept = turn_if-still_of c.args.store.now (event.seat == number) now.player next event now.text.items text c.in_ok-player.ensures now.invariant.kept;
    }
