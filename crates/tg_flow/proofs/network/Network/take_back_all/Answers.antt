use Rattle.std.proofs.Common.{arith}
use Rattle.tg_flow.proofs.Changes.{same-none}
use Rattle.tg_flow.proofs.Limits.{rest-none, rest-step, rest-flow}
use Rattle.tg_flow.proofs.network.Network.take_back_all.Goals as goal

pub loop-number-init : goal.loop-number-init
loop-number-init c = record {
  same = same-none c.args.self.now;
  rest = rest-none c.args.self.now;
  end = c.len-number-end.ensures;
}

pub loop-number-preserved : goal.loop-number-preserved
loop-number-preserved c =
    let now = c.loop-number.invariant in
    let step = rest-step c.args.self.now c.loop-number.self c.take_back.new.self c.loop-number.number now.same now.rest (omega (arith, now.end, c.loop-number-test.true)) c.take_back.ensures in
    record { same = step.0; rest = step.1; end = omega (arith, now.end, now.same.len, step.0.len) }

pub returns-clause-none : goal.returns-clause-none
returns-clause-none c =
    let now = c.loop-number.invariant in
    rest-flow c.loop-number.self c.loop-number.number (omega (arith, now.end, c.loop-number-test.false)) now.rest
