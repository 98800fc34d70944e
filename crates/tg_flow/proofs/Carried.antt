-- Units on their way, edge by edge.
use Rattle.std.proofs.Common.{◌≡◌, ℕ, zero, suc, ◌+◌, ◌<◌, Bool, true, false, List, slice_get, slice_set, Option, Some, None, refl, sym, ap, ◌∙◌, subst, arith}
use Rattle.std.specs.Prelude.{option_map, is_some}
use Rattle.std.proofs.lemmas.Bool.{false≢true}
use Rattle.std.proofs.lemmas.Option.{none-some, same_Some}
use Rattle.tg_flow.specs.declared.edges.FlowEdge.{FlowEdge}
use Rattle.tg_flow.specs.declared.edges.Flow.{Flow}
use Rattle.tg_flow.specs.declared.edges.Side.{Side}
use Rattle.tg_flow.specs.declared.edges.Side.TheVariants.{Source, Target}
use Rattle.tg_flow.specs.declared.edges.Passage.{Passage}
use Rattle.tg_flow.specs.declared.edges.Passage.TheVariants.{Shut, On, Out}
use Rattle.tg_flow.specs.declared.ways.Step.{Step}
use Rattle.tg_flow.specs.Edges.{opposite, at_side, with_flow, passage_at}
use Rattle.tg_flow.specs.Flows.{weight, leaves, arrives, leaving, arriving, IsFlow, IsCarried, SameBut}
use Rattle.tg_flow.specs.Ways.{Steps, step_at, is_met, level_of, level_at, level_over, AreWays, GoesBy, IsWay, HasWayOf, HasWay}
use Rattle.tg_flow.specs.Sending.{GoesOut, GoesOn, LeadsOn, Sends, SendsMany}
use Rattle.tg_flow.proofs.Tallies.{count-set, slice_get-set_other}
use Rattle.tg_flow.proofs.Passages.{in_side, in_side_is, Balanced, balanced, StaysKept, stays_kept, NotOut, one_way}
use Rattle.tg_flow.proofs.Changes.{same-set, same-then, closed-back}

weight-more : (b : Bool) (n : ℕ) → weight b n + weight b 1 ≡ weight b (n + 1)
weight-more true n = refl
weight-more false n = refl

-- a unit starts at x
pub carried-first : (edges : List FlowEdge) (x units : ℕ) → IsFlow edges x units → IsCarried edges x units x
carried-first edges x units flow s closed = omega (arith, flow s closed, weight-more (s x) units)

-- counts before and after, of those that leave and arrive; what one edge adds to them; and the unit on its way
swing_on : (l l2 a a2 el el2 ea ea2 v w units : ℕ) → l2 + el ≡ l + el2 → a2 + ea ≡ a + ea2 → el2 + w + ea ≡ el + v + ea2 → l + v ≡ a + units → l2 + w ≡ a2 + units
swing_on l l2 a a2 el el2 ea ea2 v w units p q r h = omega arith

swing_out : (l l2 a a2 el el2 ea ea2 v units : ℕ) → l2 + el ≡ l + el2 → a2 + ea ≡ a + ea2 → el2 + ea ≡ el + v + ea2 → l + v ≡ a + units → l2 ≡ a2 + units
swing_out l l2 a a2 el el2 ea ea2 v units p q r h = omega arith

module _ (edges : List FlowEdge) (k : ℕ) (e : FlowEdge) (here : Side) (after : Flow) (at : slice_get edges k ≡ Some e) where
  abbrev moved : List FlowEdge
  moved = slice_set edges k (with_flow e after)

  pub kept-on : passage_at e here ≡ On after → SameBut edges moved
  kept-on is = same-set edges k e after at (subst (StaysKept e.flow) is (stays_kept e.role e.flow here))

  pub kept-out : passage_at e here ≡ Out after → SameBut edges moved
  kept-out is = same-set edges k e after at (subst (StaysKept e.flow) is (stays_kept e.role e.flow here))

  pub carried-on : (x units : ℕ) → passage_at e here ≡ On after → IsCarried edges x units (at_side e here) → IsCarried moved x units (at_side e (opposite here))
  carried-on x units is carried s closed =
      let before = closed-back edges moved (kept-on is) s closed in
      let even = subst (Balanced (s e.source) (s e.target) e.role e.flow here) is (balanced (s e.source) (s e.target) e.role e.flow here (before k e at)) in
      swing_on (leaving s edges) (leaving s moved) (arriving s edges) (arriving s moved) (weight (leaves s e) 1) (weight (leaves s (with_flow e after)) 1) (weight (arrives s e) 1) (weight (arrives s (with_flow e after)) 1) (weight (s (at_side e here)) 1) (weight (s (at_side e (opposite here))) 1) (weight (s x) (units + 1))
      (count-set (leaves s) edges k e (with_flow e after) at)
      (count-set (arrives s) edges k e (with_flow e after) at)
      (subst (λ b. weight (leaves s (with_flow e after)) 1 + weight b 1 + weight (arrives s e) 1 ≡ weight (leaves s e) 1 + weight (s (at_side e here)) 1 + weight (arrives s (with_flow e after)) 1) (in_side_is s e (opposite here))
      (subst (λ b. weight (leaves s (with_flow e after)) 1 + weight (in_side (s e.source) (s e.target) (opposite here)) 1 + weight (arrives s e) 1 ≡ weight (leaves s e) 1 + weight b 1 + weight (arrives s (with_flow e after)) 1) (in_side_is s e here) even))
      (carried s before)

  pub carried-out : (x units : ℕ) → passage_at e here ≡ Out after → IsCarried edges x units (at_side e here) → IsFlow moved x (units + 1)
  carried-out x units is carried s closed =
      let before = closed-back edges moved (kept-out is) s closed in
      let even = subst (Balanced (s e.source) (s e.target) e.role e.flow here) is (balanced (s e.source) (s e.target) e.role e.flow here (before k e at)) in
      swing_out (leaving s edges) (leaving s moved) (arriving s edges) (arriving s moved) (weight (leaves s e) 1) (weight (leaves s (with_flow e after)) 1) (weight (arrives s e) 1) (weight (arrives s (with_flow e after)) 1) (weight (s (at_side e here)) 1) (weight (s x) (units + 1))
      (count-set (leaves s) edges k e (with_flow e after) at)
      (count-set (arrives s) edges k e (with_flow e after) at)
      (subst (λ b. weight (leaves s (with_flow e after)) 1 + weight (arrives s e) 1 ≡ weight (leaves s e) 1 + weight b 1 + weight (arrives s (with_flow e after)) 1) (in_side_is s e here) even)
      (carried s before)

-- what a level over a passage says
pub level-on : (o : Option Step) (n : ℕ) → option_map (λ (step : Step). step.level + 1) o ≡ Some n → (step : Step) × (o ≡ Some step) × (step.level + 1 ≡ n)
level-on None n h = absurd (none-some n h)
level-on (Some step) n h = (step, refl, same_Some (step.level + 1) n h)

-- where the rest goes on so from whoever is nearer
pub goes-more : (rest other : ℕ → Type 0) (steps : Steps) (v w : ℕ) (p : Passage) → (level_at steps w < level_at steps v → rest w → other w) → GoesBy rest steps v w p → GoesBy other steps v w p
goes-more rest other steps v w Shut more h = h
goes-more rest other steps v w (Out after) more h = h
goes-more rest other steps v w (On after) more (nearer, h) = (nearer, more nearer h)

-- the step of v leads over this edge, and from there on
pub way-open : (edges : List FlowEdge) (steps : Steps) (v : ℕ) (step : Step) (e : FlowEdge) → step_at steps v ≡ Some step → slice_get edges step.number ≡ Some e → HasWay edges steps v → (at_side e step.side ≡ v) × GoesBy (HasWay edges steps) steps v (at_side e (opposite step.side)) (passage_at e step.side)
way-open edges steps v step e there edge (n, way) = by n way
  where
    by : (n : ℕ) → HasWayOf n edges steps v → (at_side e step.side ≡ v) × GoesBy (HasWay edges steps) steps v (at_side e (opposite step.side)) (passage_at e step.side)
    by zero way = absurd way
    by (suc n) way =
        let same : way.step ≡ step = same_Some way.step step (sym way.there ∙ there) in
        let alike : way.e ≡ e = same_Some way.e e (sym way.edge ∙ ap (λ (s : Step). slice_get edges s.number) same ∙ edge) in
        let stands : at_side e step.side ≡ v = sym (λ i. at_side (alike i) (same i).side) ∙ way.stands in
        let goes : GoesBy (HasWay edges steps) steps v (at_side way.e (opposite way.step.side)) (passage_at way.e way.step.side) = goes-more (HasWayOf n edges steps) (HasWay edges steps) steps v (at_side way.e (opposite way.step.side)) (passage_at way.e way.step.side) (λ nearer rest. (n, rest)) way.goes in (
          stands,
          subst (λ (s : Step). GoesBy (HasWay edges steps) steps v (at_side e (opposite s.side)) (passage_at e s.side)) same (subst (λ (f : FlowEdge). GoesBy (HasWay edges steps) steps v (at_side f (opposite way.step.side)) (passage_at f way.step.side)) alike goes),
        )

-- the position has a step
pub way-step : (edges : List FlowEdge) (steps : Steps) (v : ℕ) → step_at steps v ≡ None → HasWay edges steps v → ⊥
way-step edges steps v unmet (n, way) = by n way
  where
    by : (n : ℕ) → HasWayOf n edges steps v → ⊥
    by zero way = way
    by (suc n) way = none-some way.step (sym unmet ∙ way.there)

-- over an edge
pub way-edge : (edges : List FlowEdge) (steps : Steps) (v : ℕ) (step : Step) → step_at steps v ≡ Some step → slice_get edges step.number ≡ None → HasWay edges steps v → ⊥
way-edge edges steps v step there no_edge (n, way) = by n way
  where
    by : (n : ℕ) → HasWayOf n edges steps v → ⊥
    by zero way = way
    by (suc n) way = none-some way.e (sym no_edge ∙ ap (λ (s : Step). slice_get edges s.number) (same_Some step way.step (sym there ∙ way.there)) ∙ way.edge)

-- who has a step over an edge, by which a unit comes out, or on to who has a way
pub way-last : (edges : List FlowEdge) (steps : Steps) (v : ℕ) (step : Step) (e : FlowEdge) (after : Flow) → step_at steps v ≡ Some step → slice_get edges step.number ≡ Some e → at_side e step.side ≡ v → passage_at e step.side ≡ Out after → HasWay edges steps v
way-last edges steps v step e after there edge stands is =
    let goes : GoesBy (HasWayOf zero edges steps) steps v (at_side e (opposite step.side)) (passage_at e step.side) = subst (GoesBy (HasWayOf zero edges steps) steps v (at_side e (opposite step.side))) (sym is) tt in
    (suc zero, record { step = step; there = there; e = e; edge = edge; stands = stands; goes = goes })

pub way-on : (edges : List FlowEdge) (steps : Steps) (v : ℕ) (step : Step) (e : FlowEdge) (after : Flow) → step_at steps v ≡ Some step → slice_get edges step.number ≡ Some e → at_side e step.side ≡ v → passage_at e step.side ≡ On after → level_at steps (at_side e (opposite step.side)) < level_at steps v → LeadsOn edges steps v (at_side e (opposite step.side))
way-on edges steps v step e after there edge stands is nearer = record { nearer = nearer; leads = by }
  where
    by : HasWay edges steps (at_side e (opposite step.side)) → HasWay edges steps v
    by (n, way) =
        let goes : GoesBy (HasWayOf n edges steps) steps v (at_side e (opposite step.side)) (passage_at e step.side) = subst (GoesBy (HasWayOf n edges steps) steps v (at_side e (opposite step.side))) (sym is) (nearer, way) in
        (suc n, record { step = step; there = there; e = e; edge = edge; stands = stands; goes = goes })

-- the steps of a search lead to the end
goes-level : (rest : ℕ → Type 0) (steps : Steps) (v w n : ℕ) (p : Passage) → level_over steps w p ≡ Some n → level_at steps v ≡ n → ((step : Step) → step_at steps w ≡ Some step → step.level < n → rest w) → GoesBy rest steps v w p
goes-level rest steps v w n Shut far level more = none-some n far
goes-level rest steps v w n (Out after) far level more = tt
goes-level rest steps v w n (On after) far level more =
    let on = level-on (step_at steps w) n far in
    let lower : level_at steps w ≡ on.0.level = ap level_of on.1 in
    (omega (arith, lower, level, on.2), more on.0 on.1 (omega (arith, on.2)))

pub ways-lead : (edges : List FlowEdge) (steps : Steps) → AreWays edges steps → (n v : ℕ) (step : Step) → step_at steps v ≡ Some step → step.level < n → HasWayOf n edges steps v
ways-lead edges steps ways zero v step there low = omega (arith, low)
ways-lead edges steps ways (suc n) v step there low =
    let one = ways v step there in
    record {
      step = step;
      there = there;
      e = one.e;
      edge = one.edge;
      stands = one.stands;
      goes = goes-level (HasWayOf n edges steps) steps v (at_side one.e (opposite step.side)) step.level (passage_at one.e step.side) one.far (ap level_of there) (λ next at lower. ways-lead edges steps ways n (at_side one.e (opposite step.side)) next at (omega (arith, lower, low)));
    }

-- so who was met has a way
pub met-way : (edges : List FlowEdge) (steps : Steps) (v : ℕ) → AreWays edges steps → is_met steps v ≡ true → HasWay edges steps v
met-way edges steps v ways met = by (step_at steps v) refl met
  where
    by : (o : Option Step) → step_at steps v ≡ o → is_some o ≡ true → HasWay edges steps v
    by None there met = absurd (false≢true met)
    by (Some step) there met = (step.level + 1, ways-lead edges steps ways (step.level + 1) v step there (omega arith))

module _ (old new : List FlowEdge) (steps : Steps) (v : ℕ) (step : Step) (e : FlowEdge) (after : Flow) (edge : slice_get old step.number ≡ Some e) (stands : at_side e step.side ≡ v) (put : new ≡ slice_set old step.number (with_flow e after)) where
  pub passes-out : passage_at e step.side ≡ Out after → GoesOut old new v
  passes-out is = record {
    same = subst (SameBut old) (sym put) (kept-out old step.number e step.side after edge is);
    out = λ x units carried. subst (λ (edges : List FlowEdge). IsFlow edges x (units + 1)) (sym put) (carried-out old step.number e step.side after edge x units is (subst (IsCarried old x units) (sym stands) carried));
  }

  module _ (is : passage_at e step.side ≡ On after) where
    abbrev w : ℕ
    w = at_side e (opposite step.side)

    -- no step of one that is nearer than v leads over this edge
    apart : (rest : ℕ → Type 0) (u : ℕ) → level_at steps u < level_at steps v → (way : IsWay rest old steps u) → way.step.number ≡ step.number → ⊥
    apart rest u low way equal = by way.step.side step.side (ap (λ (f : FlowEdge). at_side f way.step.side) (sym alike) ∙ way.stands) (subst (λ (f : FlowEdge). GoesBy rest steps u (at_side f (opposite way.step.side)) (passage_at f way.step.side)) alike way.goes) stands is
      where
        alike : way.e ≡ e
        alike = same_Some way.e e (sym way.edge ∙ ap (slice_get old) equal ∙ edge)

        -- it is v's own step, which is farther
        mine : u ≡ v → ⊥
        mine same = let level : level_at steps u ≡ level_at steps v = ap (level_at steps) same in omega (arith, level, low)

        -- it goes to v, or out
        back : (p : Passage) → GoesBy rest steps u v p → NotOut (On after) p → ⊥
        back Shut goes not_out = goes
        back (Out again) goes not_out = not_out
        back (On again) (nearer, more) not_out = omega (arith, nearer, low)

        by : (one two : Side) → at_side e one ≡ u → GoesBy rest steps u (at_side e (opposite one)) (passage_at e one) → at_side e two ≡ v → passage_at e two ≡ On after → ⊥
        by Source Source h goes g on = mine (sym h ∙ g)
        by Target Target h goes g on = mine (sym h ∙ g)
        by Source Target h goes g on = back (passage_at e Source) (subst (λ (p : ℕ). GoesBy rest steps u p (passage_at e Source)) g goes) (subst (λ (p : Passage). NotOut p (passage_at e Source)) on (one_way e.role e.flow Target))
        by Target Source h goes g on = back (passage_at e Target) (subst (λ (p : ℕ). GoesBy rest steps u p (passage_at e Target)) g goes) (subst (λ (p : Passage). NotOut p (passage_at e Target)) on (one_way e.role e.flow Source))

    -- so the ways of those stay
    stays : (n u : ℕ) → level_at steps u < level_at steps v → HasWayOf n old steps u → HasWayOf n new steps u
    stays zero u low way = way
    stays (suc n) u low way = record {
      step = way.step;
      there = way.there;
      e = way.e;
      edge = ap (λ (edges : List FlowEdge). slice_get edges way.step.number) put ∙ slice_get-set_other old way.step.number step.number (with_flow e after) (apart (HasWayOf n old steps) u low way) ∙ way.edge;
      stands = way.stands;
      goes = goes-more (HasWayOf n old steps) (HasWayOf n new steps) steps u (at_side way.e (opposite way.step.side)) (passage_at way.e way.step.side) (λ nearer rest. stays n (at_side way.e (opposite way.step.side)) (omega (arith, nearer, low)) rest) way.goes;
    }

    pub passes-on : level_at steps w < level_at steps v → HasWay old steps w → GoesOn old new steps v w
    passes-on nearer (n, way) = record {
      same = subst (SameBut old) (sym put) (kept-on old step.number e step.side after edge is);
      on = λ x units carried. subst (λ (edges : List FlowEdge). IsCarried edges x units w) (sym put) (carried-on old step.number e step.side after edge x units is (subst (IsCarried old x units) (sym stands) carried));
      nearer = nearer;
      way = (n, stays n w nearer way);
    }

-- one more unit has gone
pub sends-more : (x more : ℕ) (first old new : List FlowEdge) → SendsMany x more first old → Sends x old new → SendsMany x (more + 1) first new
sends-more x more first old new many one = record {
  same = same-then first old new many.same one.same;
  many = λ units flow. subst (IsFlow new x) (plus units) (one.more (units + more) (many.many units flow));
}
  where
    plus : (units : ℕ) → units + more + 1 ≡ units + (more + 1)
    plus units = omega arith
