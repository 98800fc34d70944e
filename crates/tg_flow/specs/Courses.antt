-- What a search along edges follows.
use Rattle.std.specs.Prelude.{◌≡◌, ℕ, Bool, true, false, ◌&&◌, ◌||◌, not, List, slice_get, slice_index_or, Some}
use Rattle.tg_flow.specs.declared.edges.FlowEdge.{FlowEdge}
use Rattle.tg_flow.specs.declared.edges.Role.{Role}
use Rattle.tg_flow.specs.declared.edges.Role.TheVariants.{Link, End, Both}
use Rattle.tg_flow.specs.declared.edges.Side.{Side}
use Rattle.tg_flow.specs.declared.edges.Side.TheVariants.{Source, Target}
use Rattle.tg_flow.specs.declared.edges.Passage.{Passage}
use Rattle.tg_flow.specs.declared.edges.Passage.TheVariants.{Shut, On, Out}
use Rattle.tg_flow.specs.declared.courses.Course.{Course}
use Rattle.tg_flow.specs.declared.courses.Course.TheVariants.{ToEnd, Near, Beyond}
use Rattle.tg_flow.specs.Edges.{is_kept, opposite, at_side, passage_at}

-- whether a position is marked
abbrev pub is_in : List Bool → ℕ → Bool
is_in marks v = slice_index_or marks v false

-- the set of nobody
abbrev pub nobody : ℕ → Bool
nobody v = false

-- who stands at the side comes to the end by the edge itself
abbrev pub is_holder : Role → Side → Bool
is_holder Link here = false
is_holder End Source = true
is_holder End Target = false
is_holder Both Source = true
is_holder Both Target = false

abbrev pub can_link : Role → Bool
can_link Link = true
can_link End = false
can_link Both = true

-- By whether the other side of an edge is one of a set: whether a unit comes so out at the end, or to one of the set
abbrev pub comes_to : Bool → Passage → Bool
comes_to other Shut = false
comes_to other (Out after) = true
comes_to other (On after) = other

-- whether a unit goes on so from one of the set
abbrev pub goes_from : Bool → Passage → Bool
goes_from other Shut = false
goes_from other (Out after) = false
goes_from other (On after) = other

-- By whether the position at the side is near x, whether the other one is, and whether that is one of a set: whether the first comes to the end without the near ones, by the edge itself, if that counts, or as one that is linked to one of the set
abbrev pub leads_beyond : Bool → Bool → Bool → Bool → Role → Side → Bool
leads_beyond has_holders near other_near other role here = not near && ((has_holders && is_holder role here) || (can_link role && (not other_near && other)))

-- whether an edge makes the position at its side one of the set: on the course to the end, where a unit from there comes out, or to one of the set, maybe over kept edges alone; near x, where a unit from one of the set comes there; beyond those that are near, where it comes to the end without them
abbrev pub leads : Course → (ℕ → Bool) → (ℕ → Bool) → FlowEdge → Side → Bool
leads (ToEnd kept_alone) near s e here = (not kept_alone || is_kept e) && comes_to (s (at_side e (opposite here))) (passage_at e here)
leads Near near s e here = goes_from (s (at_side e (opposite here))) (passage_at e (opposite here))
leads (Beyond has_holders) near s e here = leads_beyond has_holders (near (at_side e here)) (near (at_side e (opposite here))) (s (at_side e (opposite here))) e.role here

-- nothing leads out of the set: whom an edge makes one of it, is one
abbrev pub IsWhole : Course → (ℕ → Bool) → (ℕ → Bool) → List FlowEdge → Type 0
IsWhole course near s edges = (k : ℕ) (e : FlowEdge) (here : Side) → slice_get edges k ≡ Some e → leads course near s e here ≡ true → s (at_side e here) ≡ true
