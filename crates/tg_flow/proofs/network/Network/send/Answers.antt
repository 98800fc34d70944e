use Rattle.std.proofs.lemmas.Option.{MatchOption-at_none}
use Rattle.tg_flow.specs.Sending.{GoesOut, GoesOn}
use Rattle.tg_flow.proofs.Changes.{same-none, same-then}
use Rattle.tg_flow.proofs.Carried.{carried-first}
use Rattle.tg_flow.proofs.network.Network.send.Goals as goal

pub loop-next-init : goal.loop-next-init
loop-next-init c = record {
  way = c.requires;
  same = same-none c.args.self.now;
  carried = carried-first c.args.self.now c.args.x;
}

pub loop-next-preserved : goal.loop-next-preserved
loop-next-preserved c =
    let now = c.loop-next.invariant in
    let goes = c.in-Some.ensures in
    record {
      way = goes.way;
      same = same-then c.args.self.now c.loop-next.self c.pass.new.self now.same goes.same;
      carried = λ units flow. goes.on c.args.x units (now.carried units flow);
    }

pub returns : goal.returns
returns c =
    let now = c.loop-next.invariant in
    let steps = c.args.ways.now in
    let goes = MatchOption-at_none (GoesOut c.loop-next.self c.pass.new.self c.loop-next.position) (λ next. GoesOn c.loop-next.self c.pass.new.self steps c.loop-next.position next) c.in_default.is c.pass.ensures in
    record {
      same = same-then c.args.self.now c.loop-next.self c.pass.new.self now.same goes.same;
      more = λ units flow. goes.out c.args.x units (now.carried units flow);
    }
