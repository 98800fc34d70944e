use Rattle.std.proofs.Common.{sym, ap, ◌∙◌, refl, length}
use Rattle.std.proofs.lemmas.Option.{slice_get_read}
use Rattle.tg_graph.specs.GraphOf.{graph_of}
use Rattle.tg_hall.specs.Answers.{after_steps}
use Rattle.tg_hall.proofs.Ordered.{replay-next}
use Rattle.tg_hall.proofs.replays.replayed.Goals as goal

pub loop-record-preserved : goal.loop-record-preserved
loop-record-preserved c =
    let r = c.record-item.result in
    let records = c.args.records.now in
    let i = c.loop-record.record-index in
    c.in_ok-lay_all.ensures.graph ∙ ap (after_steps (graph_of c.loop-record.graph)) c.as_slice.ensures.value ∙ ap (λ g. after_steps g r.steps) c.loop-record.invariant
    ∙ sym (replay-next (graph_of c.args.opening.now) records i r (slice_get_read records (length records) i r refl c.loop-record-test.true c.record-item.is))
