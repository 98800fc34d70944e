use Rattle.std.proofs.Common.{◌+◌, take, sym, subst, ◌∙◌}
use Rattle.tg_plays.specs.Runs.{Plays}
use Rattle.tg_plays.proofs.ScriptLemmas.{plays_more}
use Rattle.tg_plays.proofs.running.play_all.Goals as goal

pub loop-event-preserved : goal.loop-event-preserved
loop-event-preserved c =
    let now = c.loop-event in
    let next = c.play_event.new in
    let played = c.in_ok-play_event.ensures in
    record {
      plays = subst (λ text. Plays c.args.hall.now (take (now.event-index + 1) c.args.events.now) text next.hall) (sym played.added)
          (plays_more c.args.hall.now now.hall next.hall c.args.events.now now.text.items now.event-index c.event-item.result played.line c.loop-event-test.true c.event-item.is now.invariant.plays played.outcome);
      seats = played.seats ∙ now.invariant.seats;
    }
