use Rattle.std.proofs.Common.{◌≡◌, ℕ, ◌<◌, Some, slice_get, sym, ap, ◌∙◌, subst, arith}
use Rattle.tg_flow.specs.Edges.{opposite, at_side}
use Rattle.tg_flow.specs.Ways.{step_at, level_of, level_at}
use Rattle.tg_flow.specs.Sending.{LeadsOn}
use Rattle.tg_flow.proofs.Carried.{way-on}
use Rattle.tg_flow.proofs.network.Network.next_on.Goals as goal

pub returns-then-level-step : goal.returns-then-level-step
returns-then-level-step c =
    let steps = c.args.ways.now in
    let step = c.in-Some.step in
    let e = c.in-Some-edge.edge in
    let there : step_at steps c.args.position ≡ Some step = sym c.step.ensures ∙ c.in-Some.is in
    let edge : slice_get c.args.self.now step.number ≡ Some e = sym c.edge.ensures ∙ c.in-Some-edge.is in
    let on_side : c.at.result ≡ c.args.position = omega (arith, c.if-at-position.false) in
    let comes : c.at-next.result ≡ at_side e (opposite step.side) = c.at-next.ensures ∙ ap (at_side e) c.opposite.ensures in
    let level : level_at steps c.args.position ≡ step.level = ap level_of there in
    let nearer : level_at steps c.at-next.result < level_at steps c.args.position = omega (arith, c.level.ensures, c.if-level-step.true, level) in
    let leads = way-on c.args.self.now steps c.args.position step e c.in-On.field-0 there edge (sym c.at.ensures ∙ on_side) (sym c.passage.ensures ∙ c.in-On.is) (subst (λ (w : ℕ). level_at steps w < level_at steps c.args.position) comes nearer) in
    subst (LeadsOn c.args.self.now steps c.args.position) (sym comes) leads
