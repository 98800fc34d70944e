use Rattle.std.proofs.Common.{◌≡◌, subst, IfOk, OnOk}
use Rattle.tg_hall.specs.declared.answers.Answered.{Answered}
use Rattle.tg_hall.specs.Answers.{IsAnswer, after_step}
use Rattle.tg_hall.specs.Touches.{step_writes}
use Rattle.tg_hall.specs.Drafted.{drafted, GainsRows}
use Rattle.tg_hall.proofs.SeatLemmas.{draft-push, session-push}
use Rattle.tg_hall.proofs.seats.OpenSession.stage.Goals as goal

pub returns-in-Ok-clause-on : goal.returns-in-Ok-clause-on
returns-in-Ok-clause-on c =
    let base = c.args.base.now in
    let old = c.make_room.new.self in
    let on = c.make_room.ensures.on base c.requires.on in
    let step = c.args.step.now in
    let now = c.answer-outcome.new.draft in
    let a : Answered = record { step = step; reply = c.in-Ok.reply } in
    session-push base old (record { draft = now; kept = c.keep.new.kept; known = c.answer-outcome.new.known }) a on
    c.keep.ensures
    (draft-push base old.kept.items old.draft now a on.drawn c.created.ensures.draft c.answer-outcome.ensures.fits
    (subst (λ r. OnOk r (drafted base now ≡ after_step (drafted base old.draft) step)) c.in-Ok.is c.answer-outcome.ensures.after)
    (subst (λ r. OnOk r (GainsRows old.draft (step_writes (drafted base old.draft) step) now)) c.in-Ok.is c.answer-outcome.ensures.rows))
    (subst (λ r. IfOk r (λ reply. IsAnswer (drafted base old.draft) step reply)) c.in-Ok.is c.answer-outcome.ensures.reply)
    c.requires.named c.answer-outcome.ensures.known
