use Rattle.std.proofs.Common.{sym, ap, subst, bytes_eq}
use Rattle.std.specs.List.{IsDistinct}
use Rattle.std.specs.Map.{keys_of}
use Rattle.tg_store.specs.declared.weighing.Weighed.TheVariants.{Clear}
use Rattle.tg_store.specs.declared.running_sessions.Attempt.TheVariants.{Further}
use Rattle.tg_graph.specs.Drafts.{laid_over}
use Rattle.tg_hall.specs.declared.seats.OpenSession.{OpenSession}
use Rattle.tg_hall.specs.Seats.{IsSessionOn, unknowing}
use Rattle.tg_store.specs.Attempts.{IsNext, AttemptSays}
use Rattle.tg_hall.proofs.SeatLemmas.{unknowing-clear}
use Rattle.tg_store.proofs.RunningSessions.{next-draft, rested}
use Rattle.tg_store.proofs.running_sessions.Session.rest_on.Goals as goal

pub take_in-requires-clause-fits : goal.take_in-requires-clause-fits
take_in-requires-clause-fits c =
    let n = subst (λ s. IsNext s (Clear c.args.draft)) (sym c.self.view_is) c.requires.clear in
    n.2.1.fits

pub take_in-requires-clause-laid : goal.take_in-requires-clause-laid
take_in-requires-clause-laid c =
    let n = subst (λ s. IsNext s (Clear c.args.draft)) (sym c.self.view_is) c.requires.clear in
    next-draft c.self.inside.seat n.0 c.args.draft c.taken.ensures.seat n.1 n.2.1

pub invariant_of-result : goal.invariant_of-result
invariant_of-result c =
    let n = subst (λ s. IsNext s (Clear c.args.draft)) (sym c.self.view_is) c.requires.clear in
    let s = c.self.inside.seat in
    let apart = subst (λ rows. IsDistinct bytes_eq (keys_of rows)) c.graph.ensures.value c.len.ensures.graph.apart in
    subst (λ rows. IsSessionOn rows c.unknowing-staged.result) (sym c.in-Ok.ensures.graph)
    (subst (IsSessionOn (laid_over s.graph c.args.draft)) (sym c.unknowing-staged.ensures.value)
    (unknowing-clear s.graph n.0.steps c.args.draft c.self.inside.staged n.2.1 c.self.invariant n.2.0 apart))

pub returns-in-Ok : goal.returns-in-Ok
returns-in-Ok c =
    let n = subst (λ s. IsNext s (Clear c.args.draft)) (sym c.self.view_is) c.requires.clear in
    let s = c.self.inside.seat in
    let u = c.take_in.new.self in
    let o = c.self.inside.staged in
    let apart = subst (λ rows. IsDistinct bytes_eq (keys_of rows)) c.graph.ensures.value c.len.ensures.graph.apart in
    let on = subst (λ rows. IsSessionOn rows (unknowing o)) (sym c.in-Ok.ensures.graph) (unknowing-clear s.graph n.0.steps c.args.draft o n.2.1 c.self.invariant n.2.0 apart) in
    let further = rested s u o.kept.items n.0 c.taken.ensures.seat n.1 n.2.0 c.take_in.ensures.pass.0 c.take_in.ensures.pass.1 c.in-Ok.ensures.taken c.take_in.ensures.seat on.answers in
    let same = ap (λ (o : OpenSession). o.kept.items) c.unknowing-staged.ensures.value in
    subst (λ s. AttemptSays s (Further (record { seat = u; steps = c.unknowing-staged.result.kept.items }))) c.self.view_is
    (subst (λ steps. AttemptSays (record { seat = s; steps = o.kept.items }) (Further (record { seat = u; steps = steps }))) (sym same) further)
