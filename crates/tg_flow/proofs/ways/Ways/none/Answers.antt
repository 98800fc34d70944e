use Rattle.std.proofs.Common.{◌≡◌, ℕ, Option, None, map, replicate, ap, ◌∙◌, arith}
use Rattle.tg_flow.specs.declared.ways.Step.{Step}
use Rattle.tg_flow.specs.PackedSteps.{step_of}
use Rattle.tg_flow.proofs.PackedWays.{no-steps}
use Rattle.tg_flow.proofs.ways.Ways.none.Goals as goal

pub returns : goal.returns
returns c =
    let all : c.loop.counter ≡ c.args.count = omega (arith, c.loop-test.false, c.loop.auto.counter-end) in
    ap (map step_of) c.loop.invariant ∙ no-steps c.loop.counter ∙ ap (λ (n : ℕ). replicate {A = Option Step} n None) all
