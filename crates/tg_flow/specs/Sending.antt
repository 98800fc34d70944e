-- Units on their way.
use Rattle.std.specs.Prelude.{◌+◌, ◌<◌, ℕ, List}
use Rattle.tg_flow.specs.declared.edges.FlowEdge.{FlowEdge}
use Rattle.tg_flow.specs.Flows.{IsFlow, IsCarried, SameBut}
use Rattle.tg_flow.specs.Ways.{Steps, level_at, HasWay}

-- the unit that stands at v comes out at the end
pub record GoesOut (old new : List FlowEdge) (v : ℕ) : Type 0 where
  pub same : SameBut old new
  pub out : (x units : ℕ) → IsCarried old x units v → IsFlow new x (units + 1)

-- it comes to w, which is nearer to the end, and from there it can still go by the steps
pub record GoesOn (old new : List FlowEdge) (steps : Steps) (v w : ℕ) : Type 0 where
  pub same : SameBut old new
  pub on : (x units : ℕ) → IsCarried old x units v → IsCarried new x units w
  pub nearer : level_at steps w < level_at steps v
  pub way : HasWay new steps w

-- w is nearer to the end, and who can go from there can go from v
pub record LeadsOn (edges : List FlowEdge) (steps : Steps) (v w : ℕ) : Type 0 where
  pub nearer : level_at steps w < level_at steps v
  pub leads : HasWay edges steps w → HasWay edges steps v

-- one more unit has gone from x to the end
pub record Sends (x : ℕ) (old new : List FlowEdge) : Type 0 where
  pub same : SameBut old new
  pub more : (units : ℕ) → IsFlow old x units → IsFlow new x (units + 1)

-- so many more have
pub record SendsMany (x more : ℕ) (old new : List FlowEdge) : Type 0 where
  pub same : SameBut old new
  pub many : (units : ℕ) → IsFlow old x units → IsFlow new x (units + more)
