use Rattle.std.proofs.Common.{refl, subst}
use Rattle.tg_sharing.specs.Spreading.{ReadsEdge}
use Rattle.tg_sharing.proofs.Spreads.{reads-next, reads-met}
use Rattle.tg_sharing.proofs.spreading.Spread.read_row.Goals as goal

pub returns-then-branch : goal.returns-then-branch
returns-then-branch c =
    let edge = subst (λ met. ReadsEdge c.args.graph.now c.args.position c.loop-place.place met c.loop-place.self c.read_edge.new.self) c.if-branch.true c.in_ok-read_edge.ensures in
    reads-met c.args.graph.now c.args.position c.loop-place.place c.args.self.now c.loop-place.self c.read_edge.new.self (record c.read_edge.new.self { flood = c.meet.new.self }) c.loop-place.invariant edge c.in_ok-meet.ensures refl refl refl

pub loop-place-preserved : goal.loop-place-preserved
loop-place-preserved c =
    let edge = subst (λ met. ReadsEdge c.args.graph.now c.args.position c.loop-place.place met c.loop-place.self c.read_edge.new.self) c.if-branch.false c.in_ok-read_edge.ensures in
    reads-next c.args.graph.now c.args.position c.loop-place.place c.args.self.now c.loop-place.self c.read_edge.new.self c.loop-place.invariant edge
