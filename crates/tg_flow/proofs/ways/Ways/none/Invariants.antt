use Rattle.std.proofs.Common.{◌≡◌, replicate}
use Rattle.tg_flow.specs.PackedSteps.{no_step}
use Rattle.tg_flow.proofs.ways.Ways.none.Given as goal

abbrev pub invariant-loop : goal.invariant-loop
invariant-loop l = l.steps.items ≡ replicate l.counter no_step
