-- The way back from the first holder that a breadth-first search comes to is a shortest one.
use Rattle.std.proofs.Common.{◌≡◌, ℕ, zero, suc, ◌+◌, ◌<◌, ◌≤◌, ◌⊎◌, inl, inr, List, [], ◌∷◌, length, Some, get_or, slice_get, refl, sym, ◌∙◌, subst, IsTrue, arith}
use Rattle.std.proofs.lemmas.Bool.{both_ways, cases_lt}
use Rattle.std.proofs.lemmas.Option.{slice_get_within, slice_get-get_or}
use Rattle.std.specs.Map.{keys_of}
use Rattle.tg_names.specs.declared.right_sets.Right.{Right}
use Rattle.tg_names.specs.Names.{Name}
use Rattle.tg_graph.specs.Graphs.{ProtectionGraph}
use Rattle.tg_islands.specs.Sharing.{IsChain}
use Rattle.tg_islands.specs.Moves.{IsShortest}
use Rattle.tg_sharing.specs.Searches.{Visits, GoesBack, IsSearch, IsSearched, IsMetUpTo, IsInOrder}
use Rattle.tg_sharing.proofs.Searched.{key-visit}
use Rattle.tg_sharing.proofs.Steps.{some_pair, step_back}

-- so many steps lead from the place back to the first, or fewer
abbrev pub IsWithin : Visits → ℕ → ℕ → Type 0
IsWithin met place zero = place ≡ 0
IsWithin met place (suc n) = (place ≡ 0) ⊎ ((v : Name) × (from : ℕ) × (slice_get met place ≡ Some (v, from)) × IsWithin met from n)

module _ (g : ProtectionGraph) (met : Visits) (s : IsSearch g met) (right : Right) (y : Name) (place rounds : ℕ) (order : IsInOrder met rounds) (searched : IsSearched g right y met place) where
  -- a place before is no further
  earlier_within : (n i j : ℕ) → i ≤ j → j < length met → IsWithin met j n → IsWithin met i n
  earlier_within zero i j le lt w = omega (arith, le, w)
  earlier_within (suc n) i j le lt (inl w) = inl (omega (arith, le, w))
  earlier_within (suc n) i j le lt (inr w) = go (cases_lt 0 j) (get_or met i (w.0, w.1)) (slice_get-get_or met i (w.0, w.1) (omega (arith, le, lt))) (λ from near there. earlier_within n from w.1 near there w.3)
    where
      go : (0 < j) ⊎ (j ≤ 0) → (visit : Name × ℕ) → slice_get met i ≡ Some visit → ((from : ℕ) → from ≤ w.1 → w.1 < length met → IsWithin met from n) → IsWithin met i (suc n)
      go (inr none) visit here further = inl (omega (arith, le, none))
      go (inl positive) visit here further =
          inr (visit.0, visit.1, here, further visit.1 (order.rising i j visit.0 w.0 visit.1 w.1 le here w.2) (omega (arith, (s.trail j w.0 w.1 positive w.2).earlier, lt)))

  -- a way back has no more steps
  way_within : (way : List Name) (at end n : ℕ) → GoesBack met at way end → IsWithin met at n → length way ≤ n
  way_within [] at end n goes w = omega arith
  way_within (v ∷ vs) at end zero goes w = absurd (omega (arith, w, (step_back met at v goes.0 goes.1).positive))
  way_within (v ∷ vs) at end (suc n) goes (inl w) = absurd (omega (arith, w, (step_back met at v goes.0 goes.1).positive))
  way_within (v ∷ vs) at end (suc n) goes (inr w) =
      let step = step_back met at v goes.0 goes.1 in
      let same : goes.0 ≡ w.1 = (some_pair (step.name, goes.0) (w.0, w.1) (sym step.here ∙ w.2)).1 in
      omega (arith, way_within vs goes.0 end n goes.2 (subst (λ m. IsWithin met m n) (sym same) w.3))

  module _ (way : List Name) (end : ℕ) (goes : GoesBack met place way end) where
    past : (at : ℕ) (u : Name) (from n : ℕ) (ws : List Name) → slice_get met at ≡ Some (u, from) → IsWithin met at n → place ≤ at → length way ≤ n + length ws
    past at u from n ws here w le = omega (arith, way_within way place end n goes (earlier_within n place at le (slice_get_within met at (u, from) here) w))

    -- a chain from a vertex that was met
    along : (ws : List Name) (u t : Name) (at from n : ℕ) → slice_get met at ≡ Some (u, from) → IsWithin met at n → IsChain g u ws t → IsTrue (g.holds t right y) → length way ≤ n + length ws
    along [] u t at from n here w chain held =
        elim (cases_lt at place) [ inl lt ↦ absurd (both_ways _ (searched.none at u from lt here) (subst (λ v. IsTrue (g.holds v right y)) (sym chain.0) held)) | inr le ↦ past at u from n [] here w le ]
    along (v ∷ vs) u t at from n here w chain held =
        elim (cases_lt at place) [ inl lt ↦ next (searched.round at u from v lt here chain.1) (λ at' from' there near. along vs v t at' from' (suc n) there near chain.2 held) | inr le ↦ past at u from n (v ∷ vs) here w le ]
      where
        next : IsMetUpTo met at v → ((at' from' : ℕ) → slice_get met at' ≡ Some (v, from') → IsWithin met at' (suc n) → length way ≤ suc n + length vs) → length way ≤ n + length (v ∷ vs)
        next m further =
            let near : IsWithin met m.0 (suc n) = inr (v, m.1, m.3, earlier_within n m.1 at m.2 (slice_get_within met at (u, from) here) w) in
            omega (arith, further m.0 m.1 m.3 near)

    pub shortest : (x : Name) → slice_get (keys_of met) 0 ≡ Some x → IsShortest g right x y way
    shortest x first holder other held chain =
        let visit = key-visit met 0 x first in
        omega (arith, along other x holder 0 visit.0 0 visit.1 refl chain held)
