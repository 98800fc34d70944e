-- One round of a search: the neighbours of one vertex are met.
use Rattle.std.proofs.Common.{◌≡◌, ℕ, ◌+◌, ◌<◌, ◌≤◌, Bool, true, false, ◌⊎◌, inl, inr, List, [], ◌∷◌, ◌++◌, length, take, Some, get_or, slice_get, nat_eq, sym, ap, ◌∙◌, subst, IsTrue, bytes_eq}
use Rattle.std.proofs.lemmas.Bool.{true≢false, or_cases, or_left, or_right, eqb-true, eq-eqb}
use Rattle.std.proofs.lemmas.List.{take_more, take_all}
use Rattle.std.proofs.lemmas.List.Folds.{list_any-append, list_any_at}
use Rattle.std.proofs.lemmas.List.Sorted.{list_any-IsPermutation}
use Rattle.std.specs.List.{list_any, position}
use Rattle.std.specs.List.Sorted.{IsPermutation}
use Rattle.std.specs.Map.{keys_of}
use Rattle.tg_names.specs.Names.{Name, same_name}
use Rattle.tg_graph.specs.Graphs.{ProtectionGraph, WellFormed}
use Rattle.tg_rows.proofs.Rows.{same_bytes}
use Rattle.tg_islands.specs.Sharing.{linked}
use Rattle.tg_islands.specs.Linked.{NeighbourLists, neighbours, AreLinks}
use Rattle.tg_sharing.specs.Searches.{Visits, is_among, with_met, IsSearch, IsInOrder, GoesRound, AddsUnmet, AreNear, AreUnmetAt, AreUnmet, Meets}
use Rattle.tg_islands.proofs.NameTests.{same_refl}
use Rattle.tg_graph.proofs.Positions.{at-position}
use Rattle.tg_islands.proofs.Places.{place_of}
use Rattle.tg_sharing.proofs.Searched.{visit-key, key-visit, grows-then, grows-met, is-met, search-met, order-met}
use Rattle.tg_sharing.proofs.Underway.{linked_ends}

any-one : {X : Type 0} (t : X → Bool) (x : X) → list_any t (x ∷ []) ≡ true → t x ≡ true
any-one t x h = elim (or_cases (t x) false h) [ inl e ↦ e | inr e ↦ absurd (true≢false (sym e)) ]

pub any-cases : {X : Type 0} (t : X → Bool) (xs : List X) (x : X) → list_any t (xs ++ x ∷ []) ≡ true → (list_any t xs ≡ true) ⊎ (t x ≡ true)
any-cases t xs x h = elim (or_cases (list_any t xs) (list_any t (x ∷ [])) (sym (list_any-append t xs (x ∷ [])) ∙ h)) [ inl e ↦ inl e | inr e ↦ inr (any-one t x e) ]

-- ---- the neighbours
pub near-position : (g : ProtectionGraph) (links : NeighbourLists) (u : Name) (at : ℕ) → AreLinks g links → position (bytes_eq u) g.vertices ≡ Some at → AreNear g u (neighbours links at)
near-position g links u at are here = λ b v there. are.exact at b u v (at-position g.vertices u at here) there

-- ---- those that were not met
pub unmet-push : (vertices : List Name) (met : Visits) (position : ℕ) (names : List Name) (name : Name) → slice_get vertices position ≡ Some name → AddsUnmet vertices met position names (names ++ name ∷ [])
unmet-push vertices met position names name here = record {
  kept = λ v h. list_any-append (same_name v) names (name ∷ []) ∙ or_left (list_any (same_name v) names) _ h;
  here = λ v h. let same : name ≡ v = cc in inr (list_any-append (same_name v) names (name ∷ []) ∙ or_right (list_any (same_name v) names) _ (or_left (same_name v name) false (subst (λ t. same_name v t ≡ true) (sym same) (same_refl v))));
  from = λ v h. elim (any-cases (same_name v) names name h) [ inl e ↦ inl e | inr e ↦ inr (here ∙ ap Some (sym (same_bytes v name e))) ];
}

module _ (g : ProtectionGraph) (met : Visits) (u : Name) (near : List ℕ) where
  pub unmet-none : AreUnmetAt g met u [] []
  unmet-none = record { joined = λ v h. absurd (true≢false (sym h)); all = λ b v h e. absurd (true≢false (sym h)) }

  pub unmet-next : (i at : ℕ) (old new : List Name) → AreNear g u near → i < length near → at ≡ get_or near i 0 → AreUnmetAt g met u (take i near) old → AddsUnmet g.vertices met at old new → AreUnmetAt g met u (take (i + 1) near) new
  unmet-next i at old new are lt is before adds = record { joined = λ v h. from v (adds.from v h); all = λ b v h there. go b v there (cases b h) }
    where
      from : (v : Name) → is_among v old ⊎ (slice_get g.vertices at ≡ Some v) → IsTrue (linked g u v)
      from v (inl e) = before.joined v e
      from v (inr e) = sym (are at v e) ∙ list_any_at (nat_eq at) near i 0 lt (eq-eqb at (get_or near i 0) is)

      cases : (b : ℕ) → list_any (nat_eq b) (take (i + 1) near) ≡ true → (list_any (nat_eq b) (take i near) ≡ true) ⊎ (nat_eq b (get_or near i 0) ≡ true)
      cases b h = any-cases (nat_eq b) (take i near) (get_or near i 0) (sym (ap (list_any (nat_eq b)) (take_more near i 0 lt)) ∙ h)

      kept : (v : Name) → is_among v (keys_of met) ⊎ is_among v old → is_among v (keys_of met) ⊎ is_among v new
      kept v (inl e) = inl e
      kept v (inr e) = inr (adds.kept v e)

      go : (b : ℕ) (v : Name) → slice_get g.vertices b ≡ Some v → (list_any (nat_eq b) (take i near) ≡ true) ⊎ (nat_eq b (get_or near i 0) ≡ true) → is_among v (keys_of met) ⊎ is_among v new
      go b v there (inl h) = kept v (before.all b v h there)
      go b v there (inr h) = adds.here v (subst (λ k. slice_get g.vertices k ≡ Some v) (eqb-true b (get_or near i 0) h ∙ sym is) there)

  pub unmet-whole : WellFormed g → (i : ℕ) (old new : List Name) → AreNear g u near → length near ≤ i → AreUnmetAt g met u (take i near) old → IsPermutation old new → AreUnmet g met u new
  unmet-whole well i old new are le before moved = record {
    joined = λ v h. before.joined v (list_any-IsPermutation (same_name v) old new moved ∙ h);
    all = λ v link. go v link (place_of g.vertices v (linked_ends g well u v link).1);
  }
    where
      go : (v : Name) → IsTrue (linked g u v) → (b : ℕ) × (slice_get g.vertices b ≡ Some v) → is_among v (keys_of met) ⊎ is_among v new
      go v link at = elim (before.all at.0 v (ap (list_any (nat_eq at.0)) (take_all i near le) ∙ are at.0 v at.1 ∙ link) at.1) [ inl e ↦ inl e | inr e ↦ inr (sym (list_any-IsPermutation (same_name v) old new moved) ∙ e) ]

-- ---- one after another is met
module _ (g : ProtectionGraph) (well : WellFormed g) (u : Name) (place : ℕ) where
  pub meets-none : (met : Visits) → IsSearch g met → IsInOrder met place → Meets g place met met []
  meets-none met s o = record { grows = record { places = λ k visit h. h; keys = λ v h. h }; search = s; order = o; there = λ w h. absurd (true≢false (sym h)) }

  pub meets-next : (old now : Visits) (names : List Name) (i : ℕ) (name : Name) → slice_get (keys_of old) place ≡ Some u → ((v : Name) → is_among v names → IsTrue (linked g u v)) → i < length names → name ≡ get_or names i name → Meets g place old now (take i names) → Meets g place old (with_met now name place) (take (i + 1) names)
  meets-next old now names i name here joined lt is m = record {
    grows = grows-then old now (with_met now name place) m.grows (grows-met now name place);
    search = search-met g well now u name place m.search (still (key-visit old place u here)) (joined name (list_any_at (same_name name) names i name lt (ap (same_name name) (sym is) ∙ same_refl name)));
    order = order-met now name place m.order;
    there = λ w h. go w (any-cases (same_name w) (take i names) (get_or names i name) (sym (ap (list_any (same_name w)) (take_more names i name lt)) ∙ h));
  }
    where
      still : (from : ℕ) × (slice_get old place ≡ Some (u, from)) → slice_get (keys_of now) place ≡ Some u
      still v = visit-key now place (u, v.0) (m.grows.places place (u, v.0) v.1)

      go : (w : Name) → (is_among w (take i names)) ⊎ (same_name w (get_or names i name) ≡ true) → is_among w (keys_of (with_met now name place))
      go w (inl h) = (grows-met now name place).keys w (m.there w h)
      go w (inr h) = subst (λ t. is_among t (keys_of (with_met now name place))) (is ∙ sym (same_bytes w (get_or names i name) h)) (is-met now name place)

  pub round-whole : (old new : Visits) (names : List Name) (i : ℕ) → AreUnmet g old u names → length names ≤ i → Meets g place old new (take i names) → GoesRound g place u old new
  round-whole old new names i are le m = record {
    grows = m.grows;
    search = m.search;
    order = m.order;
    round = λ w link. elim (are.all w link) [ inl e ↦ m.grows.keys w e | inr e ↦ m.there w (ap (list_any (same_name w)) (take_all i names le) ∙ e) ];
  }
