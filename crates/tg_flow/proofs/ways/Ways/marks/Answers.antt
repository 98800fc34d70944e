use Rattle.std.proofs.Common.{◌∙◌, arith}
use Rattle.tg_flow.proofs.PackedWays.{mark-more}
use Rattle.tg_flow.proofs.ways.Ways.marks.Goals as goal

pub loop-position-preserved : goal.loop-position-preserved
loop-position-preserved c =
    let now = c.loop-position.invariant in
    record {
      marks = c.in_ok-push.ensures.items ∙ mark-more c.args.self.now c.loop-position.marks.items c.loop-position.position c.has_met.result (omega (arith, now.end, c.loop-position-test.true)) now.marks c.has_met.ensures;
      end = now.end;
    }
