-- How a step is kept in eight bytes.
use Rattle.std.specs.Prelude.{ℕ, nat_eq, ◌/◌, ◌%◌, Option, Some, None, if◌then◌else◌}
use Rattle.tg_flow.specs.declared.edges.Side.{Side}
use Rattle.tg_flow.specs.declared.edges.Side.TheVariants.{Source, Target}
use Rattle.tg_flow.specs.declared.ways.Step.{Step}
use Rattle.tg_flow.specs.declared.packed_steps.PackedStep.{PackedStep}

abbrev pub side_number : Side → ℕ
side_number Source = 1
side_number Target = 2

abbrev pub side_numbered : ℕ → Side
side_numbered n = if nat_eq n 1 then Source else Target

-- the step that is packed so, if there is one: behind the number of its edge two bits for the side
abbrev pub step_of : PackedStep → Option Step
step_of packed = if nat_eq (packed.code % 4) 0 then None else Some (record { number = packed.code / 4; side = side_numbered (packed.code % 4); level = packed.level })

abbrev pub no_step : PackedStep
no_step = record { code = 0; level = 0 }
