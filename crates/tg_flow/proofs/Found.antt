-- Searches that meet one position more.
use Rattle.std.proofs.Common.{◌≡◌, ℕ, ◌+◌, ◌<◌, Bool, true, false, not, ◌&&◌, ◌||◌, cond, length, slice_get, slice_set, Option, Some, None, refl, sym, ap, ◌∙◌, subst, arith, ◌⊎◌, inl, inr}
use Rattle.std.specs.Prelude.{count_by, option_map, is_some}
use Rattle.std.proofs.lemmas.Bool.{true≢false, cases_eq}
use Rattle.std.proofs.lemmas.List.{get_or-set_same, get_or-set_other}
use Rattle.std.proofs.lemmas.Option.{none-some, same_Some, cond_some, slice_get-get_or}
use Rattle.tg_flow.specs.declared.edges.FlowEdge.{FlowEdge}
use Rattle.tg_flow.specs.declared.edges.Side.{Side}
use Rattle.tg_flow.specs.declared.edges.Passage.{Passage}
use Rattle.tg_flow.specs.declared.edges.Passage.TheVariants.{Shut, On, Out}
use Rattle.tg_flow.specs.declared.courses.Course.{Course}
use Rattle.tg_flow.specs.declared.courses.Course.TheVariants.{ToEnd, Near, Beyond}
use Rattle.tg_flow.specs.declared.ways.Step.{Step}
use Rattle.tg_flow.specs.Edges.{is_kept, opposite, at_side, passage_at}
use Rattle.tg_flow.specs.Ways.{Steps, step_at, is_met, level_over, IsStep}
use Rattle.tg_flow.specs.Courses.{is_holder, can_link, comes_to, goes_from, leads}
use Rattle.tg_flow.specs.Searches.{SearchOf, HasFirst, AreLeast, HaveSteps, IsSearch, level_by, unmet_count, GoesFurther, LooksOn}
use Rattle.tg_flow.proofs.Tallies.{count-set}
use Rattle.tg_flow.proofs.Carried.{level-on}

-- ---- a greater set: whom an edge makes one of the lesser set, it makes one of the greater
and-more : (a b c : Bool) → (b ≡ true → c ≡ true) → (a && b) ≡ true → (a && c) ≡ true
and-more true b c more h = more h
and-more false b c more h = h

comes-more : (p : Passage) (a b : Bool) → (a ≡ true → b ≡ true) → comes_to a p ≡ true → comes_to b p ≡ true
comes-more Shut a b more h = h
comes-more (Out after) a b more h = h
comes-more (On after) a b more h = more h

goes-more : (p : Passage) (a b : Bool) → (a ≡ true → b ≡ true) → goes_from a p ≡ true → goes_from b p ≡ true
goes-more Shut a b more h = h
goes-more (Out after) a b more h = h
goes-more (On after) a b more h = more h

beyond-more : (a b c d x y : Bool) → (x ≡ true → y ≡ true) → (a && (b || (c && (d && x)))) ≡ true → (a && (b || (c && (d && y)))) ≡ true
beyond-more false b c d x y more h = h
beyond-more true true c d x y more h = refl
beyond-more true false false d x y more h = h
beyond-more true false true false x y more h = h
beyond-more true false true true x y more h = more h

pub leads-more : (course : Course) (near s t : ℕ → Bool) (e : FlowEdge) (here : Side) → ((v : ℕ) → s v ≡ true → t v ≡ true) → leads course near s e here ≡ true → leads course near t e here ≡ true
leads-more (ToEnd kept_alone) near s t e here more h =
    let other = at_side e (opposite here) in
    and-more (not kept_alone || is_kept e) (comes_to (s other) (passage_at e here)) (comes_to (t other) (passage_at e here)) (comes-more (passage_at e here) (s other) (t other) (more other)) h
leads-more Near near s t e here more h =
    let other = at_side e (opposite here) in
    goes-more (passage_at e (opposite here)) (s other) (t other) (more other) h
leads-more (Beyond has_holders) near s t e here more h =
    let other = at_side e (opposite here) in
    beyond-more (not (near (at_side e here))) (has_holders && is_holder e.role here) (can_link e.role) (not (near other)) (s other) (t other) (more other) h

-- ---- levels: an edge gives one where it makes the position one of those that were met, and nowhere else
level-comes : (steps : Steps) (w n : ℕ) (p : Passage) → level_over steps w p ≡ Some n → comes_to (is_met steps w) p ≡ true
level-comes steps w n Shut h = absurd (none-some n h)
level-comes steps w n (Out after) h = refl
level-comes steps w n (On after) h = ap is_some (level-on (step_at steps w) n h).1

chosen : (b c : Bool) (o : Option ℕ) (n : ℕ) → (o ≡ Some n → c ≡ true) → cond b o None ≡ Some n → (b && c) ≡ true
chosen true c o n so h = so h
chosen false c o n so h = absurd (none-some n h)

pub level-leads : (course : Course) (near : ℕ → Bool) (steps : Steps) (e : FlowEdge) (here : Side) (n : ℕ) → level_by course near steps e here ≡ Some n → leads course near (is_met steps) e here ≡ true
level-leads (ToEnd kept_alone) near steps e here n h =
    let other = at_side e (opposite here) in
    chosen (not kept_alone || is_kept e) (comes_to (is_met steps other) (passage_at e here)) (level_over steps other (passage_at e here)) n (level-comes steps other n (passage_at e here)) h
level-leads Near near steps e here n h = (cond_some (leads Near near (is_met steps) e here) 0 n h).0
level-leads (Beyond has_holders) near steps e here n h = (cond_some (leads (Beyond has_holders) near (is_met steps) e here) 0 n h).0

level-to_end : (kept_alone : Bool) (near : ℕ → Bool) (steps : Steps) (e : FlowEdge) (here : Side) (n : ℕ) → level_by (ToEnd kept_alone) near steps e here ≡ Some n → level_over steps (at_side e (opposite here)) (passage_at e here) ≡ Some n
level-to_end kept_alone near steps e here n h = by (not kept_alone || is_kept e) (level_over steps (at_side e (opposite here)) (passage_at e here)) h
  where
    by : (b : Bool) (o : Option ℕ) → cond b o None ≡ Some n → o ≡ Some n
    by true o h = h
    by false o h = absurd (none-some n h)

-- ---- one more is met: v, by a step over an edge
module _ (search : SearchOf) (old new : Steps) (v : ℕ) (step : Step) (e : FlowEdge) (is_search : IsSearch search old) (unmet : is_met old v ≡ false) (within : v < length old) (edge : slice_get search.edges step.number ≡ Some e) (stands : at_side e step.side ≡ v) (level : level_by search.course search.near old e step.side ≡ Some step.level) (put : new ≡ slice_set old v (Some step)) where
  here : step_at new v ≡ Some step
  here = ap (λ (steps : Steps). step_at steps v) put ∙ get_or-set_same old v (Some step) None within

  others : (u : ℕ) → (u ≡ v → ⊥) → step_at new u ≡ step_at old u
  others u apart = ap (λ (steps : Steps). step_at steps u) put ∙ get_or-set_other old v u (Some step) None apart

  no_step : step_at old v ≡ None
  no_step = by (step_at old v) unmet
    where
      by : (o : Option Step) → is_some o ≡ false → o ≡ None
      by None h = refl
      by (Some s) h = absurd (true≢false h)

  pub grows : (u : ℕ) → is_met old u ≡ true → is_met new u ≡ true
  grows u met = by (cases_eq u v)
    where
      by : (u ≡ v) ⊎ (u ≡ v → ⊥) → is_met new u ≡ true
      by (inl equal) = ap is_some (ap (step_at new) equal ∙ here)
      by (inr apart) = ap is_some (others u apart) ∙ met

  begun : HasFirst search.first (is_met new)
  begun = by search.first is_search.begun
    where
      by : (first : Option ℕ) → HasFirst first (is_met old) → HasFirst first (is_met new)
      by None h = tt
      by (Some f) h = grows f h

  least : AreLeast search new
  least s first whole u met = by (cases_eq u v)
    where
      by : (u ≡ v) ⊎ (u ≡ v → ⊥) → s u ≡ true
      by (inl equal) = ap s (equal ∙ sym stands) ∙ whole step.number e step.side edge (leads-more search.course search.near (is_met old) s e step.side (is_search.least s first whole) (level-leads search.course search.near old e step.side step.level level))
      by (inr apart) = is_search.least s first whole u (sym (ap is_some (others u apart)) ∙ met)

  -- whoever goes on to one that was met, is as far from the end as before
  level-stays : (w n : ℕ) (p : Passage) → level_over old w p ≡ Some n → level_over new w p ≡ Some n
  level-stays w n Shut h = h
  level-stays w n (Out after) h = h
  level-stays w n (On after) h = by (cases_eq w v)
    where
      by : (w ≡ v) ⊎ (w ≡ v → ⊥) → level_over new w (On after) ≡ Some n
      by (inl equal) = absurd (none-some n (sym (ap (option_map (λ (s : Step). s.level + 1)) (ap (step_at old) equal ∙ no_step)) ∙ h))
      by (inr apart) = ap (option_map (λ (s : Step). s.level + 1)) (others w apart) ∙ h

  found : (course : Course) → level_by course search.near old e step.side ≡ Some step.level → HaveSteps course search.edges old → HaveSteps course search.edges new
  found Near h have = tt
  found (Beyond has_holders) h have = tt
  found (ToEnd kept_alone) h have = λ u other at. by u other at (cases_eq u v)
    where
      by : (u : ℕ) (other : Step) → step_at new u ≡ Some other → (u ≡ v) ⊎ (u ≡ v → ⊥) → IsStep search.edges new u other
      by u other at (inl equal) =
          let is : step ≡ other = same_Some step other (sym here ∙ sym (ap (step_at new) equal) ∙ at) in
          subst (IsStep search.edges new u) is (record {
            e = e;
            edge = edge;
            stands = stands ∙ sym equal;
            far = level-stays (at_side e (opposite step.side)) step.level (passage_at e step.side) (level-to_end kept_alone search.near old e step.side step.level h);
          })
      by u other at (inr apart) =
          let one = have u other (sym (others u apart) ∙ at) in
          record {
            e = one.e;
            edge = one.edge;
            stands = one.stands;
            far = level-stays (at_side one.e (opposite other.side)) other.level (passage_at one.e other.side) one.far;
          }

  pub one_more : IsSearch search new
  one_more = record { begun = begun; least = least; found = found search.course level is_search.found }

  pub one_fewer : unmet_count new < unmet_count old
  one_fewer =
      let counted = count-set (λ (o : Option Step). not (is_some o)) old v None (Some step) (slice_get-get_or old v None within ∙ ap Some no_step) in
      let counts : unmet_count new ≡ count_by (λ (o : Option Step). not (is_some o)) (slice_set old v (Some step)) = ap unmet_count put in
      omega (arith, counted, counts)

  pub looks : LooksOn search true old new
  looks = record { is_search = one_more; fewer = λ yes. one_fewer; same = λ no. absurd (true≢false no) }

-- ---- a search goes on
pub further-none : (search : SearchOf) (steps : Steps) → IsSearch search steps → GoesFurther search steps steps
further-none search steps is = record { is_search = is; no_fewer = omega arith }

pub looks-further : (search : SearchOf) (met_one : Bool) (old new : Steps) → LooksOn search met_one old new → GoesFurther search old new
looks-further search true old new look = record { is_search = look.is_search; no_fewer = omega (arith, look.fewer refl) }
looks-further search false old new look = record { is_search = look.is_search; no_fewer = omega (arith, ap unmet_count (look.same refl)) }

pub further-then : (search : SearchOf) (old mid new : Steps) → GoesFurther search old mid → GoesFurther search mid new → GoesFurther search old new
further-then search old mid new one two = record { is_search = two.is_search; no_fewer = omega (arith, one.no_fewer, two.no_fewer) }
