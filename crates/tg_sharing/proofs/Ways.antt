-- The way back from a vertex that a search has met.
use Rattle.std.proofs.Common.{◌≡◌, ℕ, zero, suc, ◌<◌, ◌≤◌, true, false, inl, inr, List, [], ◌∷◌, ◌++◌, Option, Some, None, slice_get, refl, sym, ap, ◌∙◌, subst, IsTrue, arith, bytes_eq}
use Rattle.std.proofs.lemmas.Bool.{true≢false, both_ways, or_cases, false_from_ne_true}
use Rattle.std.specs.List.{list_any, IsDistinct, position}
use Rattle.std.specs.Map.{keys_of}
use Rattle.std.specs.Option.{option_and_then}
use Rattle.tg_names.specs.declared.right_sets.Right.{Right}
use Rattle.tg_names.specs.Names.{Name, same_name}
use Rattle.tg_graph.specs.Graphs.{ProtectionGraph, has_vertex}
use Rattle.tg_rows.proofs.Rows.{same_bytes}
use Rattle.tg_islands.specs.Sharing.{linked, IsChain, NoRepeat}
use Rattle.tg_sharing.specs.Searches.{Visits, is_among, back_of, GoesBack, IsWayBack, IsBackwards, IsSearch, IsSearched, IsInOrder, IsWay}
use Rattle.tg_islands.proofs.OneIsland.{linked_sym}
use Rattle.tg_islands.proofs.Places.{position-at, place-known}
use Rattle.tg_sharing.proofs.Searched.{visit-key, key-visit}
use Rattle.tg_sharing.proofs.Steps.{some_pair, before_visit, back_suc, StepBack, step_back}
use Rattle.tg_sharing.proofs.Shortest.{shortest}

pub backwards : (g : ProtectionGraph) (met : Visits) → IsSearch g met → IsBackwards met
backwards g met s = λ place visit positive h. (s.trail place visit.0 visit.1 positive h).earlier

back_goes : (met : Visits) (n : ℕ) (visit before : Name × ℕ) → slice_get met (suc n) ≡ Some visit → slice_get met visit.1 ≡ Some before → back_of met (suc n) ≡ None → ⊥
back_goes met n visit before here there none = outer (slice_get met (suc n)) here (sym (back_suc met n) ∙ none)
  where
    inner : (o : Option (Name × ℕ)) → o ≡ Some before → option_and_then {U = Name × ℕ} (λ (b : Name × ℕ). Some (b.0, visit.1)) o ≡ None → ⊥
    inner None e h = cc
    inner (Some b) e h = cc

    outer : (o : Option (Name × ℕ)) → o ≡ Some visit → option_and_then {U = Name × ℕ} (before_visit met) o ≡ None → ⊥
    outer None e h = cc
    outer (Some v) e h =
        let same : v ≡ visit = cc in
        inner (slice_get met visit.1) there (subst (λ (w : Name × ℕ). before_visit met w ≡ None) same h)

pub back-earlier : (met : Visits) (place : ℕ) (v : Name) (before : ℕ) → IsBackwards met → back_of met place ≡ Some (v, before) → before < place
back-earlier met place v before b h = let s = step_back met place v before h in b place (s.name, before) s.positive s.here

pub goes-back-push : (met : Visits) (place : ℕ) (vs : List Name) (end : ℕ) (v : Name) (before : ℕ) → GoesBack met place vs end → back_of met end ≡ Some (v, before) → GoesBack met place (vs ++ v ∷ []) before
goes-back-push met place [] end v before g h = (before, ap (back_of met) g ∙ h, refl)
goes-back-push met place (w ∷ ws) end v before g h = (g.0, g.1, goes-back-push met g.0 ws end v before g.2 h)

module _ (g : ProtectionGraph) (met : Visits) (s : IsSearch g met) (apart : IsDistinct bytes_eq (keys_of met)) (x : Name) (first : slice_get (keys_of met) 0 ≡ Some x) where
  -- a vertex stands at one place alone
  one_place : (v : Name) (a b : ℕ) → slice_get (keys_of met) a ≡ Some v → slice_get (keys_of met) b ≡ Some v → a ≡ b
  one_place v a b p q =
      let h : position (bytes_eq v) (keys_of met) ≡ Some a = position-at (keys_of met) apart a v p in
      let k : position (bytes_eq v) (keys_of met) ≡ Some b = position-at (keys_of met) apart b v q in
      cc

  -- the way from the vertex u at the place
  pub record WayFrom (place : ℕ) (u : Name) (way : List Name) : Type 0 where
    pub joined : IsChain g u way x
    pub once : NoRepeat (u ∷ way)
    pub earlier : (t : Name) → is_among t (u ∷ way) → (k : ℕ) × (k ≤ place) × (slice_get (keys_of met) k ≡ Some t)

  there : (place : ℕ) (u : Name) (from : ℕ) → slice_get met place ≡ Some (u, from) → IsTrue (has_vertex g u)
  there place u from h = s.known u (place-known (keys_of met) place u (visit-key met place (u, from) h))

  starts_here : (place : ℕ) (u : Name) → slice_get (keys_of met) place ≡ Some u → (t : Name) → same_name t u ≡ true → (k : ℕ) × (k ≤ place) × (slice_get (keys_of met) k ≡ Some t)
  starts_here place u h t e = (place, omega arith, h ∙ ap Some (sym (same_bytes t u e)))

  at_first : (place : ℕ) (u : Name) (from : ℕ) → slice_get met place ≡ Some (u, from) → back_of met place ≡ None → place ≡ 0
  at_first zero u from h none = refl
  at_first (suc n) u from h none =
      let m = s.trail (suc n) u from (omega arith) h in
      absurd (back_goes met n (u, from) m.before h m.there none)

  way_from : (way : List Name) (place : ℕ) (u : Name) (from end : ℕ) → slice_get met place ≡ Some (u, from) → GoesBack met place way end → back_of met end ≡ None → WayFrom place u way
  way_from [] place u from end here goes none = record {
    joined = (same, there place u from here);
    once = (refl, tt);
    earlier = λ t h. elim (or_cases (same_name t u) false h) [ inl e ↦ starts_here place u (visit-key met place (u, from) here) t e | inr e ↦ absurd (true≢false (sym e)) ];
  }
    where
      zero_is : place ≡ 0
      zero_is = at_first place u from here (ap (back_of met) goes ∙ none)

      same : u ≡ x
      same =
          let key : slice_get (keys_of met) place ≡ Some u = visit-key met place (u, from) here in
          let start : slice_get (keys_of met) place ≡ Some x = ap (slice_get (keys_of met)) zero_is ∙ first in
          cc
  way_from (v ∷ vs) place u from end here goes none = finish (way_from vs goes.0 v step.from end step.there goes.2 none)
    where
      step : StepBack met place v goes.0
      step = step_back met place v goes.0 goes.1

      same_from : goes.0 ≡ from
      same_from = (some_pair (step.name, goes.0) (u, from) (sym step.here ∙ here)).1

      link : IsTrue (linked g u v)
      link =
          let m = s.trail place u from step.positive here in
          let p : slice_get met from ≡ Some m.before = m.there in
          let q : slice_get met from ≡ Some (v, step.from) = ap (slice_get met) (sym same_from) ∙ step.there in
          let e : m.before.0 ≡ v = (some_pair m.before (v, step.from) (sym p ∙ q)).0 in
          linked_sym g v u (subst (λ t. IsTrue (linked g t u)) e m.joined)

      earlier_before : goes.0 < place
      earlier_before = back-earlier met place v goes.0 (backwards g met s) goes.1

      finish : WayFrom goes.0 v vs → WayFrom place u (v ∷ vs)
      finish w = record {
        joined = (there place u from here, link, w.joined);
        once = (false_from_ne_true _ (λ h. let e = w.earlier u h in let k : e.0 ≡ place = one_place u e.0 place e.2 (visit-key met place (u, from) here) in omega (arith, e.1, earlier_before)), w.once);
        earlier = λ t h. elim (or_cases (same_name t u) (list_any (same_name t) (v ∷ vs)) h) [ inl e ↦ starts_here place u (visit-key met place (u, from) here) t e | inr e ↦ later (w.earlier t e) ];
      }
        where
          later : {t : Name} → (k : ℕ) × (k ≤ goes.0) × (slice_get (keys_of met) k ≡ Some t) → (k : ℕ) × (k ≤ place) × (slice_get (keys_of met) k ≡ Some t)
          later e = (e.0, omega (arith, e.1, earlier_before), e.2)

  -- the way of a holder that the search comes to first
  pub way-is : (right : Right) (y holder : Name) (place rounds from : ℕ) (way : List Name) → slice_get met place ≡ Some (holder, from) → IsTrue (g.holds holder right y) → IsInOrder met rounds → IsSearched g right y met place → IsWayBack met place way → IsWay g right x y holder way
  way-is right y holder place rounds from way here held order searched back = record {
    held = held;
    joined = (way_from way place holder from back.0 here back.1 back.2).joined;
    apart = (way_from way place holder from back.0 here back.1 back.2).once;
    shortest = shortest g met s right y place rounds order searched way back.0 back.1 x first;
    none = λ has. short place way (start has) back;
  }
    where
      start : IsTrue (g.holds x right y) → place ≡ 0
      start has = go place searched
        where
          go : (n : ℕ) → IsSearched g right y met n → n ≡ 0
          go zero s' = refl
          go (suc n) s' = let v = key-visit met 0 x first in absurd (both_ways (g.holds x right y) (s'.none 0 x v.0 (omega arith) v.1) has)

      short : (n : ℕ) (way : List Name) → n ≡ 0 → IsWayBack met n way → way ≡ []
      short n [] e b = refl
      short n (v ∷ vs) e b = let p = (b.1).1 in let st = step_back met n v (b.1).0 p in absurd (omega (arith, st.positive, e))
