use Rattle.std.proofs.Common.{sym, ◌∙◌, ◌+◌, arith}
use Rattle.tg_flow.proofs.Carried.{met-way}
use Rattle.tg_flow.proofs.Changes.{same-then}
use Rattle.tg_flow.proofs.Limits.{units_count, full}
use Rattle.tg_flow.proofs.network.Network.send_all.Goals as goal

pub send-requires : goal.send-requires
send-requires c =
    let now = c.loop-self.invariant in
    met-way c.loop-self.self c.loop-self.ways c.args.x now.over.is_search.found (sym c.has_met.ensures ∙ c.loop-self-test.true)

pub overflow_add-units : goal.overflow_add-units
overflow_add-units c =
    let now = c.loop-self.invariant in
    let count = units_count c.args.self.now c.loop-self.self c.send.new.self c.args.x (c.loop-self.units + 1) c.requires.free now.same c.send.ensures.same (c.send.ensures.more c.loop-self.units now.flow) in
    omega (arith, count, now.small)

pub overflow_add-units-in-loop-self : goal.overflow_add-units-in-loop-self
overflow_add-units-in-loop-self c =
    let now = c.loop-self.invariant in
    let same = same-then c.loop-self.self c.send.new.self c.send_more.new.self c.send.ensures.same c.in_ok-more.ensures.same in
    let count = units_count c.args.self.now c.loop-self.self c.send_more.new.self c.args.x (c.loop-self.units + 1 + c.in_ok-more.more) c.requires.free now.same same (c.in_ok-more.ensures.many (c.loop-self.units + 1) (c.send.ensures.more c.loop-self.units now.flow)) in
    omega (arith, count, now.small)

pub loop-self-preserved : goal.loop-self-preserved
loop-self-preserved c =
    let now = c.loop-self.invariant in
    let same = same-then c.loop-self.self c.send.new.self c.send_more.new.self c.send.ensures.same c.in_ok-more.ensures.same in
    record {
      same = same-then c.args.self.now c.loop-self.self c.send_more.new.self now.same same;
      small = omega (arith, now.small, same.len);
      flow = c.in_ok-more.ensures.many (c.loop-self.units + 1) (c.send.ensures.more c.loop-self.units now.flow);
      over = c.in_ok-ways-2.ensures;
    }

pub loop-self-smaller : goal.loop-self-smaller
loop-self-smaller c =
    let now = c.loop-self.invariant in
    let same = same-then c.loop-self.self c.send.new.self c.send_more.new.self c.send.ensures.same c.in_ok-more.ensures.same in
    let count = units_count c.args.self.now c.loop-self.self c.send_more.new.self c.args.x (c.loop-self.units + 1 + c.in_ok-more.more) c.requires.free now.same same (c.in_ok-more.ensures.many (c.loop-self.units + 1) (c.send.ensures.more c.loop-self.units now.flow)) in
    omega (arith, count, same.len)

pub returns : goal.returns
returns c =
    let now = c.loop-self.invariant in
    record {
      same = now.same;
      full = full c.loop-self.self c.args.x c.loop-self.units c.loop-self.ways now.flow now.over (sym c.has_met.ensures ∙ c.loop-self-test.false);
    }
