-- As many units as can go from one position to the end.
use Rattle.std.specs.Prelude.{◌≡◌, ℕ, Bool, true, false, List}
use Rattle.tg_flow.specs.declared.edges.FlowEdge.{FlowEdge}
use Rattle.tg_flow.specs.declared.courses.Course.TheVariants.{ToEnd}
use Rattle.tg_flow.specs.Flows.{IsClosed, IsFlow, SameBut}
use Rattle.tg_flow.specs.Courses.{nobody, IsWhole}

-- no set with x is without a kept edge that crosses it
abbrev pub IsEndless : List FlowEdge → ℕ → Type 0
IsEndless edges x = (s : ℕ → Bool) → s x ≡ true → IsClosed s edges → ⊥

-- so many units go from x to the end, and no more can: x is not among a set that has whoever can still send a unit out, or to one of the set
pub record IsFull (edges : List FlowEdge) (x units : ℕ) : Type 0 where
  pub flow : IsFlow edges x units
  pub far : ℕ → Bool
  pub whole : IsWhole (ToEnd false) nobody far edges
  pub apart : far x ≡ false

-- units have gone from x until no more could
pub record Fills (old new : List FlowEdge) (x units : ℕ) : Type 0 where
  pub same : SameBut old new
  pub full : IsFull new x units
