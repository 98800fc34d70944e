use Rattle.std.proofs.Common.{take, sym, subst, ◌+◌, arith, ◌∙◌}
use Rattle.std.specs.List.{AllZip}
use Rattle.tg_hall.specs.Worlds.{Run, IsSpared}
use Rattle.tg_hall.proofs.RunLemmas.{run-more, spared-more}
use Rattle.tg_hall.proofs.halls.Hall.run.Goals as goal

pub loop-event-preserved : goal.loop-event-preserved
loop-event-preserved c =
    let inv = c.loop-event.invariant in
    record {
      run = subst (λ rs. Run c.args.self.now (take (c.loop-event.event-index + 1) c.args.events.now) rs c.happen-reply.new.self) (sym c.note.ensures.items)
          (run-more c.args.self.now c.loop-event.self c.happen-reply.new.self c.args.events.now c.loop-event.replies.items c.loop-event.event-index c.event-item.result c.happen-reply.result c.loop-event-test.true c.event-item.is inv.run c.happen-reply.ensures.happens);
      spared = subst (λ rs. AllZip IsSpared (take (c.loop-event.event-index + 1) c.args.events.now) rs) (sym c.note.ensures.items)
          (spared-more c.args.events.now c.loop-event.replies.items c.loop-event.event-index c.event-item.result c.happen-reply.result c.loop-event-test.true c.event-item.is inv.spared c.happen-reply.ensures.spared);
      noted = omega (arith, c.note.ensures.len, inv.noted);
      room = c.note.ensures.capacity ∙ inv.room;
    }
