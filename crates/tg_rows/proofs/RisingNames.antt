-- Names that rise with their numbers, so that numbers alone tell where an edge goes.
use Rattle.std.proofs.Common.{◌≡◌, ◌≢◌, ℕ, zero, suc, ◌+◌, ◌-◌, ◌<◌, ◌≤◌, false, cond, List, [], ◌∷◌, length, get_or, slice_get, Option, Some, None, Result, Ok, Err, IfSome, IfErr, MatchOption, unwrap_or, bytes_eq, refl, sym, ap, subst, ◌∙◌, arith, ⊎_elim}
use Rattle.std.specs.Ordering.{is_lt, is_gt, ordering_reverse}
use Rattle.std.specs.declared.cmp.Ordering.TheVariants.{Less, Greater}
use Rattle.std.specs.Cmp.Lexicographic.{nat_list_cmp_total}
use Rattle.std.specs.List.Sorted.{IsStrictlySortedBy}
use Rattle.std.specs.Map.{lookup}
use Rattle.std.specs.Option.{option_map}
use Rattle.std.proofs.lemmas.Bool.{cases_lt}
use Rattle.std.proofs.lemmas.List.{length-map}
use Rattle.std.proofs.lemmas.Map.Keys.{sorted_from_all_adjacent}
use Rattle.std.proofs.lemmas.Option.{slice_get_within, get_or_from_slice_get, slice_get-get_or, slice_get-map}
use Rattle.tg_names.specs.declared.right_sets.Rights.{Rights}
use Rattle.tg_rows.specs.declared.listed_edges.Edge.{Edge}
use Rattle.tg_names.specs.Names.{Name}
use Rattle.tg_rows.specs.Rows.{IsGapFor, IsPlaceOf, label_in}
use Rattle.tg_names.specs.Sets.{nothing}
use Rattle.tg_rows.specs.EdgeLists.{number_of, label_on, named, edges_of, AreWithin, HasLabel, NoneHas, IsNumberGap}
use Rattle.tg_rows.proofs.EdgeLists.{each-at, named-is}
use Rattle.tg_rows.proofs.Places.{name_cmp, IsUp, apart_from_less, lookup-place, below_from_last, above_from_first}
use Rattle.tg_rows.proofs.Rows.{symm}

-- each name is below the next
pub rising : (ks : List Name) → ((k : ℕ) → k + 1 < length ks → name_cmp (get_or ks k []) (get_or ks (k + 1) []) ≡ Less) → IsStrictlySortedBy name_cmp ks
rising ks up = sorted_from_all_adjacent nat_list_cmp_total ks [] up

-- and so below each further one
pub rises_far : (ks : List Name) (i j : ℕ) → IsStrictlySortedBy name_cmp ks → i < j → j < length ks → name_cmp (get_or ks i []) (get_or ks j []) ≡ Less
unfolding IsStrictlySortedBy
rises_far [] i j h lt l = absurd (omega arith)
rises_far (k ∷ ks) zero zero h lt l = absurd (omega arith)
rises_far (k ∷ ks) zero (suc j) h lt l = each-at (λ n. name_cmp k n ≡ Less) ks j [] (omega arith) h.0
rises_far (k ∷ ks) (suc i) zero h lt l = absurd (omega arith)
rises_far (k ∷ ks) (suc i) (suc j) h lt l = rises_far ks i j h.1 (omega arith) (omega arith)

-- ---- edges whose targets are numbers of such names
module _ (names : List Name) (up : IsStrictlySortedBy name_cmp names) (es : List Edge) (within : AreWithin names es) (v : Name) (n : ℕ) (at : slice_get names n ≡ Some v) (sorted : IsUp (edges_of names es)) where
  abbrev target : Edge → Name
  target e = get_or names (number_of e) []

  target_is : (k : ℕ) (e : Edge) → slice_get es k ≡ Some e → (d : Name × Rights) → target e ≡ (get_or (edges_of names es) k d).0
  target_is k e h d = sym (ap (λ (edge : Name × Rights). edge.0) (get_or_from_slice_get (edges_of names es) k (named names e) d (slice_get-map (named names) es k ∙ ap (option_map (named names)) h)))

  number_within : (k : ℕ) (e : Edge) → slice_get es k ≡ Some e → number_of e < length names
  number_within k e h =
      let low = slice_get_within es k e h in
      subst (λ (edge : Edge). number_of edge < length names) (get_or_from_slice_get es k e e h) (each-at (λ edge. number_of edge < length names) es k e low within)

  v_is : get_or names n [] ≡ v
  v_is = get_or_from_slice_get names n v [] at

  is_below : (e : Edge) → number_of e < n → name_cmp (target e) v ≡ Less
  is_below e low = ap (name_cmp (target e)) (sym v_is) ∙ rises_far names (number_of e) n up low (slice_get_within names n v at)

  is_above : (k : ℕ) (e : Edge) → slice_get es k ≡ Some e → n < number_of e → name_cmp (target e) v ≡ Greater
  is_above k e h high =
      let less : name_cmp v (target e) ≡ Less = ap (λ (w : Name). name_cmp w (target e)) (sym v_is) ∙ rises_far names n (number_of e) up high (number_within k e h) in
      nat_list_cmp_total.antisymm (target e) v ∙ ap ordering_reverse less

  number_gap : (place : ℕ) → IsNumberGap es n place → IsGapFor (edges_of names es) v place
  number_gap place g = record {
    in_range = omega (arith, g.in_range, length-map es (named names));
    lesser = lesser;
    greater = greater;
  }
    where
      lesser : (k : ℕ) (d : Name × Rights) → k < place → name_cmp (get_or (edges_of names es) k d).0 v ≡ Less
      lesser k d low =
          let last = g.lesser (omega (arith, low)) in
          below_from_last (edges_of names es) v (place - 1) (target last.0) sorted (omega (arith, low, g.in_range, length-map es (named names))) (target_is (place - 1) last.0 last.1) place (omega (arith, low)) (ap is_lt (is_below last.0 last.2)) k d low

      greater : (k : ℕ) (d : Name × Rights) → place ≤ k → k < length (edges_of names es) → name_cmp (get_or (edges_of names es) k d).0 v ≡ Greater
      greater k d a b =
          let e : Edge = get_or es place (record { bits = 0 }) in
          let there : slice_get es place ≡ Some e = slice_get-get_or es place (record { bits = 0 }) (omega (arith, a, b, length-map es (named names))) in
          above_from_first (edges_of names es) v place (target e) sorted (omega (arith, a, b)) (target_is place e there) (ap is_gt (is_above place e there (g.greater e there))) k d a b

  pub number_gaps : (found : Option (Result ℕ ℕ)) → IfSome found (λ place. IfErr place (IsNumberGap es n)) → IfSome found (λ place. IfErr place (IsGapFor (edges_of names es) v))
  number_gaps None h = tt
  number_gaps (Some (Ok place)) h = tt
  number_gaps (Some (Err place)) h = number_gap place h

-- ---- few edges, gone through one by one
module _ (names : List Name) (up : IsStrictlySortedBy name_cmp names) (v : Name) (n : ℕ) (at : slice_get names n ≡ Some v) where
  name_is : get_or names n [] ≡ v
  name_is = get_or_from_slice_get names n v [] at

  other_name : (m : ℕ) → m < length names → m ≢ n → bytes_eq v (get_or names m []) ≡ false
  other_name m within apart = ⊎_elim
      (λ low. apart_from_less (get_or names m []) v (ap (name_cmp (get_or names m [])) (sym name_is) ∙ rises_far names m n up low (slice_get_within names n v at)))
      (λ high. symm v (get_or names m []) ∙ apart_from_less v (get_or names m []) (ap (λ (w : Name). name_cmp w (get_or names m [])) (sym name_is) ∙ rises_far names n m up (above high) within))
      (cases_lt m n)
    where
      above : n ≤ m → n < m
      above high = ⊎_elim (λ more. more) (λ same. absurd (apart (omega (arith, high, same)))) (cases_lt n m)

  no_edge : (es : List Edge) → AreWithin names es → NoneHas es n → lookup (bytes_eq v) (edges_of names es) ≡ None
  no_edge [] w h = refl
  no_edge (e ∷ es) w h = ap (λ b. cond b (Some (label_on e)) (lookup (bytes_eq v) (edges_of names es))) (other_name (number_of e) w.0 h.0) ∙ no_edge es w.1 h.1

  pub label_told : (es : List Edge) → AreWithin names es → IsUp (edges_of names es) → (found : Option Rights) → MatchOption found (NoneHas es n) (HasLabel es n) → unwrap_or found nothing ≡ label_in (edges_of names es) v
  label_told es w sorted None h = sym (ap (λ (o : Option Rights). unwrap_or o nothing) (no_edge es w h))
  label_told es w sorted (Some label) h =
      let row = edges_of names es in
      let there : slice_get row h.0 ≡ Some (v, label) = slice_get-map (named names) es h.0 ∙ ap (option_map (named names)) h.2 ∙ ap Some (named-is names h.1 v label n at h.3 h.4) in
      let is : (d : Name × Rights) → get_or row h.0 d ≡ (v, label) = λ d. get_or_from_slice_get row h.0 (v, label) d there in
      let place : IsPlaceOf row v h.0 = record { in_range = slice_get_within row h.0 (v, label) there; target = λ d. ap (λ (edge : Name × Rights). edge.0) (is d) } in
      sym (ap (λ (o : Option Rights). unwrap_or o nothing) (lookup-place row v h.0 (v, label) sorted place ∙ ap (λ (edge : Name × Rights). Some edge.1) (is (v, label))))
