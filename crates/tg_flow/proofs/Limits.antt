-- When no more units can go, and when any number can.
use Rattle.std.proofs.Common.{◌≡◌, ℕ, ◌+◌, ◌<◌, ◌≤◌, Bool, true, false, not, ◌&&◌, List, length, get_or, slice_get, slice_set, Some, refl, sym, ap, ◌∙◌, subst, arith, ◌⊎◌, inl, inr}
use Rattle.std.proofs.lemmas.Bool.{both_ways, and_parts, cases_eq}
use Rattle.std.proofs.lemmas.Option.{same_Some, slice_get_within, slice_get-get_or}
use Rattle.std.proofs.lemmas.List.Sums.{count_by-le-length}
use Rattle.tg_flow.specs.declared.edges.FlowEdge.{FlowEdge}
use Rattle.tg_flow.specs.declared.edges.Role.{Role}
use Rattle.tg_flow.specs.declared.edges.Role.TheVariants.{Link, End, Both}
use Rattle.tg_flow.specs.declared.edges.Flow.{Flow}
use Rattle.tg_flow.specs.declared.edges.Flow.TheVariants.{Idle, FromSource, FromTarget, Kept}
use Rattle.tg_flow.specs.declared.edges.Side.{Side}
use Rattle.tg_flow.specs.declared.courses.Course.TheVariants.{ToEnd}
use Rattle.tg_flow.specs.Edges.{is_kept, is_kept_flow, at_rest, opposite, at_side, with_flow, passage, passage_at}
use Rattle.tg_flow.specs.Flows.{weight, leaves_by, arrives_by, leaves, arrives, leaving, arriving, IsClosed, IsFlow, SameBut}
use Rattle.tg_flow.specs.Ways.{Steps, is_met}
use Rattle.tg_flow.specs.Courses.{nobody, comes_to, IsWhole}
use Rattle.tg_flow.specs.Searches.{to_end, HasAll, HasMet, IsOver}
use Rattle.tg_flow.specs.Filling.{IsEndless, IsFull}
use Rattle.tg_flow.proofs.Tallies.{count-none, slice_get-set_same, slice_get-set_other}
use Rattle.tg_flow.proofs.Passages.{in_side, in_side_is, kept_back, kept_apart}
use Rattle.tg_flow.proofs.Changes.{same-set, same-then, closed-on}

-- there are no more units than edges, where a set with x has no kept edge that crosses it
pub flow-bound : (edges : List FlowEdge) (x units : ℕ) (s : ℕ → Bool) → IsFlow edges x units → IsClosed s edges → s x ≡ true → units ≤ length edges
flow-bound edges x units s flow closed has =
    let even : leaving s edges ≡ arriving s edges + units = flow s closed ∙ ap (λ b. arriving s edges + weight b units) has in
    omega (arith, even, count_by-le-length (leaves s) edges)

-- nor than there were before
pub units_count : (first now next : List FlowEdge) (x units : ℕ) → (s : ℕ → Bool) × IsClosed s first × (s x ≡ true) → SameBut first now → SameBut now next → IsFlow next x units → units ≤ length now
units_count first now next x units (s, closed, has) before after flow =
    let last = closed-on first next (same-then first now next before after) s closed in
    omega (arith, flow-bound next x units s flow last has, after.len)

-- ---- over kept edges alone
-- x was met
pub endless : (edges : List FlowEdge) (x : ℕ) (steps : Steps) → IsOver (to_end edges true x) steps → is_met steps x ≡ true → IsEndless edges x
endless edges x steps over met s has closed = both_ways (not (s x)) (ap not has) (over.is_search.least (λ v. not (s v)) tt whole x met)
  where
    whole : IsWhole (ToEnd true) nobody (λ v. not (s v)) edges
    whole k e here at lead =
        let parts = and_parts (is_kept e) (comes_to (not (s (at_side e (opposite here)))) (passage_at e here)) lead in
        let other = subst (λ b. comes_to (not b) (passage_at e here) ≡ true) (sym (in_side_is s e (opposite here))) parts.1 in
        ap not (sym (in_side_is s e here) ∙ kept_back (s e.source) (s e.target) e.role e.flow here parts.0 (closed k e at parts.0) other)

-- it was not met, and so those that were not met are a set that no kept edge crosses
pub apart-closed : (edges : List FlowEdge) (x : ℕ) (steps : Steps) → HasAll (to_end edges true x) steps → IsClosed (λ v. not (is_met steps v)) edges
apart-closed edges x steps all k e at kept = kept_apart (is_met steps e.source) (is_met steps e.target) e.role e.flow kept by
  where
    by : (here : Side) → comes_to (in_side (is_met steps e.source) (is_met steps e.target) (opposite here)) (passage e.role e.flow here) ≡ true → in_side (is_met steps e.source) (is_met steps e.target) here ≡ true
    by here h =
        let other = subst (λ b. comes_to b (passage_at e here) ≡ true) (in_side_is (is_met steps) e (opposite here)) h in
        in_side_is (is_met steps) e here ∙ all k e here at (kept-leads (is_kept e) (comes_to (is_met steps (at_side e (opposite here))) (passage_at e here)) kept other)
      where
        kept-leads : (a b : Bool) → a ≡ true → b ≡ true → (a && b) ≡ true
        kept-leads a b p q = (λ i. p i && q i)

-- a search that is over and has not met x has met all
pub over-all : (edges : List FlowEdge) (kept_alone : Bool) (x : ℕ) (steps : Steps) → IsOver (to_end edges kept_alone x) steps → is_met steps x ≡ false → HasAll (to_end edges kept_alone x) steps
over-all edges kept_alone x steps over unmet = by over.end
  where
    by : HasMet (Some x) steps ⊎ HasAll (to_end edges kept_alone x) steps → HasAll (to_end edges kept_alone x) steps
    by (inl met) = absurd (both_ways (is_met steps x) unmet met)
    by (inr all) = all

pub free : (edges : List FlowEdge) (x : ℕ) (steps : Steps) → IsOver (to_end edges true x) steps → is_met steps x ≡ false → (s : ℕ → Bool) × IsClosed s edges × (s x ≡ true)
free edges x steps over unmet = (λ v. not (is_met steps v), apart-closed edges x steps (over-all edges true x steps over unmet), ap not unmet)

-- no more units can go
pub full : (edges : List FlowEdge) (x units : ℕ) (steps : Steps) → IsFlow edges x units → IsOver (to_end edges false x) steps → is_met steps x ≡ false → IsFull edges x units
full edges x units steps flow over unmet = record { flow = flow; far = is_met steps; whole = over-all edges false x steps over unmet; apart = unmet }

-- ---- all units are taken back
-- the edges with lesser numbers carry nothing, or are kept
abbrev pub AreAtRest : ℕ → List FlowEdge → Type 0
AreAtRest count edges = (k : ℕ) (e : FlowEdge) → k < count → slice_get edges k ≡ Some e → at_rest e.flow ≡ e.flow

rest_is : (flow : Flow) → at_rest (at_rest flow) ≡ at_rest flow
rest_is Idle = refl
rest_is FromSource = refl
rest_is FromTarget = refl
rest_is Kept = refl

rest_kept : (flow : Flow) → is_kept_flow (at_rest flow) ≡ is_kept_flow flow
rest_kept Idle = refl
rest_kept FromSource = refl
rest_kept FromTarget = refl
rest_kept Kept = refl

pub rest-same : (edges : List FlowEdge) (k : ℕ) (e : FlowEdge) → slice_get edges k ≡ Some e → SameBut edges (slice_set edges k (with_flow e (at_rest e.flow)))
rest-same edges k e at = same-set edges k e (at_rest e.flow) at (rest_kept e.flow)

pub rest-more : (edges : List FlowEdge) (k : ℕ) (e : FlowEdge) → slice_get edges k ≡ Some e → AreAtRest k edges → AreAtRest (k + 1) (slice_set edges k (with_flow e (at_rest e.flow)))
rest-more edges k e at rest j f below there = by (cases_eq j k)
  where
    new : List FlowEdge
    new = slice_set edges k (with_flow e (at_rest e.flow))

    by : (j ≡ k) ⊎ (j ≡ k → ⊥) → at_rest f.flow ≡ f.flow
    by (inl equal) =
        let is : with_flow e (at_rest e.flow) ≡ f = same_Some (with_flow e (at_rest e.flow)) f (sym (slice_get-set_same edges k e (with_flow e (at_rest e.flow)) at) ∙ sym (ap (slice_get (slice_set edges k (with_flow e (at_rest e.flow)))) equal) ∙ there) in
        subst (λ (g : FlowEdge). at_rest g.flow ≡ g.flow) is (rest_is e.flow)
    by (inr other) = rest j f (omega arith) (sym (slice_get-set_other edges j k (with_flow e (at_rest e.flow)) other) ∙ there)

-- one more edge is at rest
pub rest-step : (first old new : List FlowEdge) (k : ℕ) → SameBut first old → AreAtRest k old → k < length old → ((e : FlowEdge) → slice_get old k ≡ Some e → new ≡ slice_set old k (with_flow e (at_rest e.flow))) → SameBut first new × AreAtRest (k + 1) new
rest-step first old new k same rest within put =
    let e : FlowEdge = get_or old k (record { source = 0; target = 0; role = Link; flow = Idle }) in
    let at : slice_get old k ≡ Some e = slice_get-get_or old k (record { source = 0; target = 0; role = Link; flow = Idle }) within in (
      subst (SameBut first) (sym (put e at)) (same-then first old (slice_set old k (with_flow e (at_rest e.flow))) same (rest-same old k e at)),
      subst (AreAtRest (k + 1)) (sym (put e at)) (rest-more old k e at rest),
    )

pub rest-none : (edges : List FlowEdge) → AreAtRest 0 edges
rest-none edges k e below at = absurd (omega arith)

-- a unit of an edge at rest neither starts nor comes out anywhere
rests : (m n : Bool) (role : Role) (flow : Flow) → at_rest flow ≡ flow → (leaves_by m n role flow ≡ false) × (arrives_by m n role flow ≡ false)
rests m n Link Idle h = (refl, refl)
rests m n Link Kept h = (refl, refl)
rests m n End Idle h = (refl, refl)
rests m n End Kept h = (refl, refl)
rests m n Both Idle h = (refl, refl)
rests m n Both Kept h = (refl, refl)
rests m n Link FromSource h = absurd (cc)
rests m n Link FromTarget h = absurd (cc)
rests m n End FromSource h = absurd (cc)
rests m n End FromTarget h = absurd (cc)
rests m n Both FromSource h = absurd (cc)
rests m n Both FromTarget h = absurd (cc)

pub rest-flow : (edges : List FlowEdge) (count : ℕ) → length edges ≤ count → AreAtRest count edges → (x : ℕ) → IsFlow edges x 0
rest-flow edges count whole rest x s closed =
    let none = λ (k : ℕ) (e : FlowEdge) (at : slice_get edges k ≡ Some e). rests (s e.source) (s e.target) e.role e.flow (rest k e (omega (arith, slice_get_within edges k e at, whole)) at) in
    count-none (leaves s) edges (λ k e at. (none k e at).0)
    ∙ sym (count-none (arrives s) edges (λ k e at. (none k e at).1))
    ∙ idle (arriving s edges) (s x)
  where
    idle : (n : ℕ) (b : Bool) → n ≡ n + weight b 0
    idle n true = omega arith
    idle n false = omega arith
