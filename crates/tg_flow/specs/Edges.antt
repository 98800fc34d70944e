-- What an edge can serve as, the unit that it carries, and what a unit can do there.
use Rattle.std.specs.Prelude.{ℕ, Bool, true, false, if◌then◌else◌}
use Rattle.tg_flow.specs.declared.edges.FlowEdge.{FlowEdge}
use Rattle.tg_flow.specs.declared.edges.Role.{Role}
use Rattle.tg_flow.specs.declared.edges.Role.TheVariants.{Link, End, Both}
use Rattle.tg_flow.specs.declared.edges.Flow.{Flow}
use Rattle.tg_flow.specs.declared.edges.Flow.TheVariants.{Idle, FromSource, FromTarget, Kept}
use Rattle.tg_flow.specs.declared.edges.Side.{Side}
use Rattle.tg_flow.specs.declared.edges.Side.TheVariants.{Source, Target}
use Rattle.tg_flow.specs.declared.edges.Passage.{Passage}
use Rattle.tg_flow.specs.declared.edges.Passage.TheVariants.{Shut, On, Out}

-- ---- edges
abbrev pub is_kept_flow : Flow → Bool
is_kept_flow Idle = false
is_kept_flow FromSource = false
is_kept_flow FromTarget = false
is_kept_flow Kept = true

abbrev pub is_kept : FlowEdge → Bool
is_kept e = is_kept_flow e.flow

-- what an edge carries before a unit has gone: whatever comes where it is kept, and else nothing
abbrev pub flow_at_first : Bool → Flow
flow_at_first kept = if kept then Kept else Idle

-- and after all units were taken back
abbrev pub at_rest : Flow → Flow
at_rest flow = flow_at_first (is_kept_flow flow)

abbrev pub opposite : Side → Side
opposite Source = Target
opposite Target = Source

-- a unit that has passed from a side
abbrev pub from : Side → Flow
from Source = FromSource
from Target = FromTarget

-- the position at a side of the edge
abbrev pub at_side : FlowEdge → Side → ℕ
at_side e Source = e.source
at_side e Target = e.target

-- the same edge, which carries something else
abbrev pub with_flow : FlowEdge → Flow → FlowEdge
with_flow e after = record { source = e.source; target = e.target; role = e.role; flow = after }

-- ---- passages
-- what a unit that stands at a side can do over a link: go on to the other side, take back the one that came from there, or nothing
abbrev pub over_link : Flow → Side → Passage
over_link Idle here = On (from here)
over_link Kept here = On Kept
over_link FromSource Source = Shut
over_link FromSource Target = On Idle
over_link FromTarget Source = On Idle
over_link FromTarget Target = Shut

-- over an edge that leads to the end: out, from its source alone; a unit from its target is none
abbrev pub over_end : Flow → Side → Passage
over_end Idle Source = Out FromSource
over_end Kept Source = Out Kept
over_end FromSource Source = Shut
over_end FromTarget Source = Out FromSource
over_end Idle Target = Shut
over_end Kept Target = Shut
over_end FromSource Target = Shut
over_end FromTarget Target = Shut

-- over an edge that is both: out from either side; or in place of the unit from the other side, which then stands there
abbrev pub over_both : Flow → Side → Passage
over_both Idle here = Out (from here)
over_both Kept here = Out Kept
over_both FromSource Source = Shut
over_both FromSource Target = On FromTarget
over_both FromTarget Source = On FromSource
over_both FromTarget Target = Shut

abbrev pub passage : Role → Flow → Side → Passage
passage Link flow here = over_link flow here
passage End flow here = over_end flow here
passage Both flow here = over_both flow here

abbrev pub passage_at : FlowEdge → Side → Passage
passage_at e here = passage e.role e.flow here
