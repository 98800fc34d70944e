-- Flows of units along edges, from one position to the end.
use Rattle.std.specs.Prelude.{◌≡◌, ◌+◌, ℕ, Bool, true, false, ◌&&◌, ◌||◌, not, if◌then◌else◌, List, length, count_by, slice_get, Some}
use Rattle.tg_flow.specs.declared.edges.FlowEdge.{FlowEdge}
use Rattle.tg_flow.specs.declared.edges.Role.{Role}
use Rattle.tg_flow.specs.declared.edges.Role.TheVariants.{Link, End, Both}
use Rattle.tg_flow.specs.declared.edges.Flow.{Flow}
use Rattle.tg_flow.specs.declared.edges.Flow.TheVariants.{Idle, FromSource, FromTarget, Kept}
use Rattle.tg_flow.specs.Edges.{is_kept, with_flow}

-- so many, if so
abbrev pub weight : Bool → ℕ → ℕ
weight has n = if has then n else 0

-- ---- sets of positions
-- By whether the source and the target of an edge are in a set: whether its unit starts in the set; over an edge that is no link none starts at the target
abbrev pub leaves_by : Bool → Bool → Role → Flow → Bool
leaves_by source target role Idle = false
leaves_by source target role Kept = false
leaves_by source target role FromSource = source
leaves_by source target Link FromTarget = target
leaves_by source target End FromTarget = false
leaves_by source target Both FromTarget = target

-- whether it comes out in the set: over a link at the other side, else at the end, which is in none
abbrev pub arrives_by : Bool → Bool → Role → Flow → Bool
arrives_by source target Link Idle = false
arrives_by source target Link FromSource = target
arrives_by source target Link FromTarget = source
arrives_by source target Link Kept = false
arrives_by source target End flow = false
arrives_by source target Both flow = false

-- whether the set has to lose the edge, if nobody outside of it is to be linked to it, and nobody in it to come to the end
abbrev pub crosses_by : Bool → Bool → Role → Bool
crosses_by source target Link = (source && not target) || (target && not source)
crosses_by source target End = source
crosses_by source target Both = source || target

abbrev pub leaves : (ℕ → Bool) → FlowEdge → Bool
leaves s e = leaves_by (s e.source) (s e.target) e.role e.flow

abbrev pub arrives : (ℕ → Bool) → FlowEdge → Bool
arrives s e = arrives_by (s e.source) (s e.target) e.role e.flow

abbrev pub crosses : (ℕ → Bool) → FlowEdge → Bool
crosses s e = crosses_by (s e.source) (s e.target) e.role

-- no kept edge crosses the set
abbrev pub IsClosed : (ℕ → Bool) → List FlowEdge → Type 0
IsClosed s edges = (k : ℕ) (e : FlowEdge) → slice_get edges k ≡ Some e → is_kept e ≡ true → crosses s e ≡ false

abbrev pub leaving : (ℕ → Bool) → List FlowEdge → ℕ
leaving s edges = count_by (leaves s) edges

abbrev pub arriving : (ℕ → Bool) → List FlowEdge → ℕ
arriving s edges = count_by (arrives s) edges

-- ---- flows
-- so many units go from x to the end: out of each closed set with x as many more than into it, and out of each other as many as into it
abbrev pub IsFlow : List FlowEdge → ℕ → ℕ → Type 0
IsFlow edges x units = (s : ℕ → Bool) → IsClosed s edges → leaving s edges ≡ arriving s edges + weight (s x) units

-- so many have gone, and one more is on its way and stands at a position
abbrev pub IsCarried : List FlowEdge → ℕ → ℕ → ℕ → Type 0
IsCarried edges x units at = (s : ℕ → Bool) → IsClosed s edges → leaving s edges + weight (s at) 1 ≡ arriving s edges + weight (s x) (units + 1)

-- the edge is the same, but for what it carries; and it is kept if it was
pub record IsSameEdge (old new : FlowEdge) : Type 0 where
  pub is : new ≡ with_flow old new.flow
  pub kept : is_kept new ≡ is_kept old

-- only what the edges carry has changed, and kept edges have not
pub record SameBut (old new : List FlowEdge) : Type 0 where
  pub len : length new ≡ length old
  pub same : (k : ℕ) (e : FlowEdge) → slice_get old k ≡ Some e → (f : FlowEdge) × (slice_get new k ≡ Some f) × IsSameEdge e f
