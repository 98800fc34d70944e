-- How an edge is kept in four bytes.
use Rattle.std.specs.Prelude.{ℕ, nat_eq, ◌/◌, ◌%◌, if◌then◌else◌}
use Rattle.tg_flow.specs.declared.edges.FlowEdge.{FlowEdge}
use Rattle.tg_flow.specs.declared.edges.Role.{Role}
use Rattle.tg_flow.specs.declared.edges.Role.TheVariants.{Link, End, Both}
use Rattle.tg_flow.specs.declared.edges.Flow.{Flow}
use Rattle.tg_flow.specs.declared.edges.Flow.TheVariants.{Idle, FromSource, FromTarget, Kept}
use Rattle.tg_flow.specs.declared.packed.PackedEdge.{PackedEdge}

abbrev pub role_number : Role → ℕ
role_number Link = 0
role_number End = 1
role_number Both = 2

abbrev pub role_numbered : ℕ → Role
role_numbered n = if nat_eq n 0 then Link else (if nat_eq n 1 then End else Both)

abbrev pub flow_number : Flow → ℕ
flow_number Idle = 0
flow_number FromSource = 1
flow_number FromTarget = 2
flow_number Kept = 3

abbrev pub flow_numbered : ℕ → Flow
flow_numbered n = if nat_eq n 0 then Idle else (if nat_eq n 1 then FromSource else (if nat_eq n 2 then FromTarget else Kept))

-- the edge that is packed so: behind the target two bits for the role and two for the flow
abbrev pub edge_of : PackedEdge → FlowEdge
edge_of packed = record { source = packed.source; target = packed.rest / 16; role = role_numbered (packed.rest % 16 / 4); flow = flow_numbered (packed.rest % 4) }
