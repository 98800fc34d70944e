use Rattle.std.proofs.Common.{◌≡◌, length, ◌+◌, sym, ap, subst, ◌∙◌}
use Rattle.tg_graph.specs.GraphOf.{graph_of}
use Rattle.tg_graph.specs.Drafts as drafts
use Rattle.tg_hall.specs.Answers.{AreAnswers, after_steps}
use Rattle.tg_hall.specs.Drafted.{drafted}
use Rattle.tg_store.specs.Running.{RunningSeat}
use Rattle.tg_store.specs.Offers.{OfferSays}
use Rattle.tg_store.specs.declared.running_seats.Offered.TheVariants.{Won, Back}
use Rattle.tg_journal.specs.declared.answers.Put.TheVariants as put
use Rattle.tg_store.proofs.RunningSessions.{offer-unready, offer-back, offer-won}
use Rattle.tg_store.proofs.running_seats.Seat.offer.Goals as goal

pub returns-in-Err : goal.returns-in-Err
returns-in-Err c =
    let i = c.self.inside in
    let s : RunningSeat = record { opening = i.opening.value; pass = i.pass; taken = i.taken; graph = i.graph } in
    let t : RunningSeat = record { opening = i.opening.value; pass = i.pass; taken = i.taken; graph = c.in-Err.graph } in
    subst (λ (s : RunningSeat). OfferSays s c.args.draft c.args.stored.now (Back t c.in-Err.draft put.Memory)) c.self.view_is
    (offer-unready s c.self.invariant c.args.stored.now c.args.draft c.in-Err.graph c.in-Err.draft c.in-Err.ensures.err)

pub invariant_of-back : goal.invariant_of-back
invariant_of-back c =
    let i = c.self.inside in
    let s : RunningSeat = record { opening = i.opening.value; pass = i.pass; taken = i.taken; graph = i.graph } in
    let e = c.put.ensures in
    let same = c.into_parts-graph.ensures ∙ c.in-Ok.ensures.ok in
    (offer-back s c.self.invariant c.args.stored.now c.args.draft c.into_parts-graph.result.0 c.put.new.pass e.number e.cells e.known e.pass c.put.result c.into_parts-graph.result.1 same c.in_default.not-Won e.full.0 e.seen).0.seat

pub returns-in_default : goal.returns-in_default
returns-in_default c =
    let i = c.self.inside in
    let s : RunningSeat = record { opening = i.opening.value; pass = i.pass; taken = i.taken; graph = i.graph } in
    let t : RunningSeat = record { opening = i.opening.value; pass = c.put.new.pass; taken = i.taken; graph = c.into_parts-graph.result.0 } in
    let e = c.put.ensures in
    let same = c.into_parts-graph.ensures ∙ c.in-Ok.ensures.ok in
    subst (λ (s : RunningSeat). OfferSays s c.args.draft c.args.stored.now (Back t c.into_parts-graph.result.1 c.put.result)) c.self.view_is
    (offer-back s c.self.invariant c.args.stored.now c.args.draft c.into_parts-graph.result.0 c.put.new.pass e.number e.cells e.known e.pass c.put.result c.into_parts-graph.result.1 same c.in_default.not-Won e.full.0 e.seen)

pub invariant_of-further : goal.invariant_of-further
invariant_of-further c =
    let i = c.self.inside in
    let s : RunningSeat = record { opening = i.opening.value; pass = i.pass; taken = i.taken; graph = i.graph } in
    let here = sym c.self.view_is in
    let r = c.args.stored.now in
    let d = c.args.draft in
    let e = c.in-Won.ensures in
    let laid = ap graph_of (c.merge.ensures ∙ ap (λ r. drafts.laid_over r.0 r.1) c.in-Ok.ensures.ok) ∙ subst (λ (s : RunningSeat). drafted s.graph d ≡ after_steps (graph_of s.graph) r.steps) here c.requires.laid in
    (offer-won s c.self.invariant r d c.merge.result c.put.new.pass e.number e.cells e.known e.pass c.in-Won.place
    (subst (λ (s : RunningSeat). s.taken ≡ length s.pass.seen) here c.requires.all)
    (subst (λ (s : RunningSeat). r.seat ≡ s.pass.number) here c.requires.number.0)
    (subst (λ (s : RunningSeat). r.number ≡ length s.pass.mine) here c.requires.number.1)
    (subst (λ (s : RunningSeat). AreAnswers (graph_of s.graph) r.steps) here c.requires.answers) laid e.seen).0.seat

pub returns-in-Won : goal.returns-in-Won
returns-in-Won c =
    let i = c.self.inside in
    let s : RunningSeat = record { opening = i.opening.value; pass = i.pass; taken = i.taken; graph = i.graph } in
    let t : RunningSeat = record { opening = i.opening.value; pass = c.put.new.pass; taken = i.taken + 1; graph = c.merge.result } in
    let here = sym c.self.view_is in
    let r = c.args.stored.now in
    let d = c.args.draft in
    let e = c.in-Won.ensures in
    let laid = ap graph_of (c.merge.ensures ∙ ap (λ r. drafts.laid_over r.0 r.1) c.in-Ok.ensures.ok) ∙ subst (λ (s : RunningSeat). drafted s.graph d ≡ after_steps (graph_of s.graph) r.steps) here c.requires.laid in
    subst (λ (s : RunningSeat). OfferSays s d r (Won t c.in-Won.place)) c.self.view_is
    (offer-won s c.self.invariant r d c.merge.result c.put.new.pass e.number e.cells e.known e.pass c.in-Won.place
    (subst (λ (s : RunningSeat). s.taken ≡ length s.pass.seen) here c.requires.all)
    (subst (λ (s : RunningSeat). r.seat ≡ s.pass.number) here c.requires.number.0)
    (subst (λ (s : RunningSeat). r.number ≡ length s.pass.mine) here c.requires.number.1)
    (subst (λ (s : RunningSeat). AreAnswers (graph_of s.graph) r.steps) here c.requires.answers) laid e.seen)
