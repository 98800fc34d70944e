use Rattle.std.proofs.Common.{◌≡◌, ℕ, Some, slice_get, sym, ap, ◌∙◌, subst}
use Rattle.tg_flow.specs.Edges.{opposite, at_side}
use Rattle.tg_flow.specs.Ways.{step_at, GoesBy, HasWay}
use Rattle.tg_flow.specs.Sending.{GoesOn}
use Rattle.tg_flow.proofs.Carried.{way-step, way-edge, way-open, passes-out, passes-on}
use Rattle.tg_flow.proofs.network.Network.pass.Goals as goal

pub unreachable-requires : goal.unreachable-requires
unreachable-requires c = way-step c.args.self.now c.args.ways.now c.args.position (sym c.step.ensures ∙ c.in_default.is) c.requires

pub unreachable-requires-in_default-edge : goal.unreachable-requires-in_default-edge
unreachable-requires-in_default-edge c = way-edge c.args.self.now c.args.ways.now c.args.position c.in-Some.step (sym c.step.ensures ∙ c.in-Some.is) (sym c.edge.ensures ∙ c.in_default-edge.is) c.requires

pub unreachable-requires-in-Shut : goal.unreachable-requires-in-Shut
unreachable-requires-in-Shut c =
    let steps = c.args.ways.now in
    let step = c.in-Some.step in
    let e = c.in-Some-edge.edge in
    let there : step_at steps c.args.position ≡ Some step = sym c.step.ensures ∙ c.in-Some.is in
    let edge : slice_get c.args.self.now step.number ≡ Some e = sym c.edge.ensures ∙ c.in-Some-edge.is in
    let open_ = way-open c.args.self.now steps c.args.position step e there edge c.requires in
    subst (GoesBy (HasWay c.args.self.now steps) steps c.args.position (at_side e (opposite step.side))) (sym c.passage.ensures ∙ c.in-Shut.is) open_.1

pub returns-in-Out : goal.returns-in-Out
returns-in-Out c =
    let steps = c.args.ways.now in
    let step = c.in-Some.step in
    let e = c.in-Some-edge.edge in
    let there : step_at steps c.args.position ≡ Some step = sym c.step.ensures ∙ c.in-Some.is in
    let edge : slice_get c.args.self.now step.number ≡ Some e = sym c.edge.ensures ∙ c.in-Some-edge.is in
    let open_ = way-open c.args.self.now steps c.args.position step e there edge c.requires in
    passes-out c.args.self.now c.set_flow.new.self steps c.args.position step e c.in-Out.flow edge open_.0 (c.set_flow.ensures e edge) (sym c.passage.ensures ∙ c.in-Out.is)

pub returns-in-On : goal.returns-in-On
returns-in-On c =
    let steps = c.args.ways.now in
    let step = c.in-Some.step in
    let e = c.in-Some-edge.edge in
    let there : step_at steps c.args.position ≡ Some step = sym c.step.ensures ∙ c.in-Some.is in
    let edge : slice_get c.args.self.now step.number ≡ Some e = sym c.edge.ensures ∙ c.in-Some-edge.is in
    let open_ = way-open c.args.self.now steps c.args.position step e there edge c.requires in
    let on = sym c.passage.ensures ∙ c.in-On.is in
    let goes = subst (GoesBy (HasWay c.args.self.now steps) steps c.args.position (at_side e (opposite step.side))) on open_.1 in
    let next = passes-on c.args.self.now c.set_flow-in-On.new.self steps c.args.position step e c.in-On.flow edge open_.0 (c.set_flow-in-On.ensures e edge) on goes.0 goes.1 in
    subst (λ (w : ℕ). GoesOn c.args.self.now c.set_flow-in-On.new.self steps c.args.position w) (sym (c.at.ensures ∙ ap (at_side e) c.opposite.ensures)) next
