-- Searches along edges.
use Rattle.std.specs.Prelude.{◌≡◌, ◌⊎◌, ⊤, ◌<◌, ◌≤◌, ℕ, Bool, true, false, ◌||◌, not, if◌then◌else◌, List, count_by, slice_get, Option, Some, None, is_some}
use Rattle.tg_flow.specs.declared.edges.FlowEdge.{FlowEdge}
use Rattle.tg_flow.specs.declared.edges.Side.{Side}
use Rattle.tg_flow.specs.declared.courses.Course.{Course}
use Rattle.tg_flow.specs.declared.courses.Course.TheVariants.{ToEnd, Near, Beyond}
use Rattle.tg_flow.specs.declared.searches.Search.{Search}
use Rattle.tg_flow.specs.Edges.{is_kept, opposite, at_side, passage_at}
use Rattle.tg_flow.specs.Ways.{Steps, is_met, level_over, AreWays}
use Rattle.tg_flow.specs.Courses.{is_in, nobody, leads, IsWhole}

-- along which edges a search goes, what it follows, who is near x, from which position it begins, if from one, and which it seeks, if one
pub record SearchOf : Type 0 where
  pub edges : List FlowEdge
  pub course : Course
  pub near : ℕ → Bool
  pub first : Option ℕ
  pub sought : Option ℕ

abbrev pub search_of : Search → SearchOf
search_of search = record { edges = search.network.now; course = search.course; near = is_in search.near.now; first = search.first; sought = search.sought }

-- a search from the end for x
abbrev pub to_end : List FlowEdge → Bool → ℕ → SearchOf
to_end edges kept_alone x = record { edges = edges; course = ToEnd kept_alone; near = nobody; first = None; sought = Some x }

-- one for those near x
abbrev pub from_near : List FlowEdge → ℕ → SearchOf
from_near edges x = record { edges = edges; course = Near; near = nobody; first = Some x; sought = None }

-- one for those beyond the near ones
abbrev pub beyond : List FlowEdge → Bool → (ℕ → Bool) → SearchOf
beyond edges has_holders near = record { edges = edges; course = Beyond has_holders; near = near; first = None; sought = None }

-- the set has the position from which the search begins
abbrev pub HasFirst : Option ℕ → (ℕ → Bool) → Type 0
HasFirst None s = ⊤
HasFirst (Some v) s = s v ≡ true

-- those that were met are in each set that has the first and that nothing leads out of
abbrev pub AreLeast : SearchOf → Steps → Type 0
AreLeast search steps = (s : ℕ → Bool) → HasFirst search.first s → IsWhole search.course search.near s search.edges → (v : ℕ) → is_met steps v ≡ true → s v ≡ true

-- on the course to the end they have steps that lead there
abbrev pub HaveSteps : Course → List FlowEdge → Steps → Type 0
HaveSteps (ToEnd kept_alone) edges steps = AreWays edges steps
HaveSteps Near edges steps = ⊤
HaveSteps (Beyond has_holders) edges steps = ⊤

-- a search so far: the first was met, and nobody but who has to be
pub record IsSearch (search : SearchOf) (steps : Steps) : Type 0 where
  pub begun : HasFirst search.first (is_met steps)
  pub least : AreLeast search steps
  pub found : HaveSteps search.course search.edges steps

-- the level of a position that an edge makes one of those that were met
abbrev pub level_by : Course → (ℕ → Bool) → Steps → FlowEdge → Side → Option ℕ
level_by (ToEnd kept_alone) near steps e here = if not kept_alone || is_kept e then level_over steps (at_side e (opposite here)) (passage_at e here) else None
level_by Near near steps e here = if leads Near near (is_met steps) e here then Some 0 else None
level_by (Beyond has_holders) near steps e here = if leads (Beyond has_holders) near (is_met steps) e here then Some 0 else None

-- how many were not met
abbrev pub unmet_count : Steps → ℕ
unmet_count steps = count_by (λ step. not (is_some step)) steps

-- the edge with a number makes nobody one of those that were met, who is none
abbrev pub MissesNone : SearchOf → Steps → ℕ → Type 0
MissesNone search steps number = (e : FlowEdge) (here : Side) → slice_get search.edges number ≡ Some e → leads search.course search.near (is_met steps) e here ≡ true → is_met steps (at_side e here) ≡ true

-- the search has gone on, and no fewer were met
pub record GoesFurther (search : SearchOf) (old new : Steps) : Type 0 where
  pub is_search : IsSearch search new
  pub no_fewer : unmet_count new ≤ unmet_count old

-- and more were met
pub record GoesOn (search : SearchOf) (old new : Steps) : Type 0 where
  pub is_search : IsSearch search new
  pub fewer : unmet_count new < unmet_count old

-- more were met, where it says so, and else nothing has changed
pub record LooksOn (search : SearchOf) (met_one : Bool) (old new : Steps) : Type 0 where
  pub is_search : IsSearch search new
  pub fewer : met_one ≡ true → unmet_count new < unmet_count old
  pub same : met_one ≡ false → new ≡ old

-- nothing leads out of those that were met
abbrev pub HasAll : SearchOf → Steps → Type 0
HasAll search steps = IsWhole search.course search.near (is_met steps) search.edges

-- the sought one, if there is one, was met
abbrev pub HasMet : Option ℕ → Steps → Type 0
HasMet None steps = ⊥
HasMet (Some v) steps = is_met steps v ≡ true

-- a search is over: it has met the one that was sought, or all that have to be met
pub record IsOver (search : SearchOf) (steps : Steps) : Type 0 where
  pub is_search : IsSearch search steps
  pub end : HasMet search.sought steps ⊎ HasAll search steps
