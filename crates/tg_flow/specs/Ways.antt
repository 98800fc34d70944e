-- The steps by which a search comes from the end.
use Rattle.std.specs.Prelude.{◌≡◌, ◌+◌, ◌<◌, ℕ, zero, suc, Bool, List, slice_get, slice_index_or, Option, Some, None, is_some, option_map}
use Rattle.tg_flow.specs.declared.edges.FlowEdge.{FlowEdge}
use Rattle.tg_flow.specs.declared.edges.Passage.{Passage}
use Rattle.tg_flow.specs.declared.edges.Passage.TheVariants.{Shut, On, Out}
use Rattle.tg_flow.specs.declared.ways.Step.{Step}
use Rattle.tg_flow.specs.Edges.{opposite, at_side, passage_at}

-- for each position the step by which it was met, if it was
abbrev pub Steps : Type 0
Steps = List (Option Step)

abbrev pub step_at : Steps → ℕ → Option Step
step_at steps v = slice_index_or steps v None

abbrev pub is_met : Steps → ℕ → Bool
is_met steps v = is_some (step_at steps v)

abbrev pub level_of : Option Step → ℕ
level_of None = 0
level_of (Some step) = step.level

-- how many steps it is to the end
abbrev pub level_at : Steps → ℕ → ℕ
level_at steps v = level_of (step_at steps v)

-- how far a vertex at a side of an edge is from the end, if it goes over that edge: one more than w, the vertex at the other side, if that was met; or 1, where the unit comes out at the end
abbrev pub level_over : Steps → ℕ → Passage → Option ℕ
level_over steps w Shut = None
level_over steps w (Out after) = Some 1
level_over steps w (On after) = option_map (λ step. step.level + 1) (step_at steps w)

-- the step leads from v over an edge, and is as far from the end as its level says
pub record IsStep (edges : List FlowEdge) (steps : Steps) (v : ℕ) (step : Step) : Type 0 where
  pub e : FlowEdge
  pub edge : slice_get edges step.number ≡ Some e
  pub stands : at_side e step.side ≡ v
  pub far : level_over steps (at_side e (opposite step.side)) (passage_at e step.side) ≡ Some step.level

-- the steps of all that were met lead so
abbrev pub AreWays : List FlowEdge → Steps → Type 0
AreWays edges steps = (v : ℕ) (step : Step) → step_at steps v ≡ Some step → IsStep edges steps v step

-- By the passage over which a unit goes from v to w: it comes out at the end, or w is nearer, and there it goes on so
abbrev pub GoesBy : (ℕ → Type 0) → Steps → ℕ → ℕ → Passage → Type 0
GoesBy rest steps v w Shut = ⊥
GoesBy rest steps v w (Out after) = Unit {0}
GoesBy rest steps v w (On after) = (level_at steps w < level_at steps v) × rest w

-- the step of v leads from there over an edge
pub record IsWay (rest : ℕ → Type 0) (edges : List FlowEdge) (steps : Steps) (v : ℕ) : Type 0 where
  pub step : Step
  pub there : step_at steps v ≡ Some step
  pub e : FlowEdge
  pub edge : slice_get edges step.number ≡ Some e
  pub stands : at_side e step.side ≡ v
  pub goes : GoesBy rest steps v (at_side e (opposite step.side)) (passage_at e step.side)

-- a unit comes by the steps from v to the end, over no more edges than so many
abbrev pub HasWayOf : ℕ → List FlowEdge → Steps → ℕ → Type 0
HasWayOf zero edges steps v = ⊥
HasWayOf (suc n) edges steps v = IsWay (HasWayOf n edges steps) edges steps v

-- over however many
abbrev pub HasWay : List FlowEdge → Steps → ℕ → Type 0
HasWay edges steps v = (n : ℕ) × HasWayOf n edges steps v
