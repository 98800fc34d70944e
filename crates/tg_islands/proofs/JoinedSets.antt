-- Sets that links join are islands.
use Rattle.std.proofs.Common.{◌≡◌, ℕ, ◌<◌, ◌≤◌, ◌+◌, List, [], ◌∷◌, Some, None, refl, sym, ap, subst, ◌∙◌, length, get_or, slice_get, arith, inl, inr, ◌⊎◌}
use Rattle.std.specs.Map.{keys_of}
use Rattle.std.proofs.lemmas.Option.{slice_get_within, slice_get-get_or}
use Rattle.tg_names.specs.Names.{Name}
use Rattle.tg_graph.specs.GraphOf.{graph_of}
use Rattle.tg_rows.specs.Rows.{Entries, IsGraph, row_number}
use Rattle.tg_islands.specs.declared.disjoint_sets.DisjointSets.{DisjointSets}
use Rattle.tg_islands.specs.Sharing.{IsChain, InOneIsland}
use Rattle.tg_islands.specs.Linked.{linked_end, IsBefore}
use Rattle.tg_islands.specs.Numbering.{AreIslands}
use Rattle.tg_islands.specs.DisjointSets.{set_of, AreApart, MovesSet, JoinsSets, AreInOne}
use Rattle.tg_islands.specs.JoinedSets.{JoinedUpTo, NumberSets}
use Rattle.tg_islands.proofs.DisjointSets.{apart-sets, ends-meet, were, together-joined}
use Rattle.tg_islands.proofs.Linked.{before, row-before, row_there, end_within, whole_before, edge-linked, linked-edge}
use Rattle.tg_islands.proofs.OneIsland.{island_refl, island_link, island_trans, island_sym, starts}
use Rattle.tg_islands.proofs.Places.{position-at, place_of, place-known}

-- ---- each vertex in a set of its own
pub joined-start : (es : Entries) (d : DisjointSets) (n : ℕ) → n ≡ length (keys_of es) → AreApart n d → JoinedUpTo es d 0 0
joined-start es d n e apart = record {
  sets = apart-sets n d apart;
  len = apart.len ∙ e;
  joined = λ a b u v p q h.
      let same : a ≡ b = sym (apart.alone a (within a u p)).0 ∙ h ∙ (apart.alone b (within b v q)).0 in
      let is : u ≡ v = (λ k. one_name b u v (ap (slice_get (keys_of es)) (sym same) ∙ p) q k) in
      subst (InOneIsland (graph_of es) u) is (island_refl (graph_of es) u (place-known (keys_of es) a u p));
  there = λ a place b h q. absurd (nothing_before a place h);
}
  where
    within : (a : ℕ) (u : Name) → slice_get (keys_of es) a ≡ Some u → a < n
    within a u p = let h = slice_get_within (keys_of es) a u p in omega arith

    one_name : (a : ℕ) (u v : Name) → slice_get (keys_of es) a ≡ Some u → slice_get (keys_of es) a ≡ Some v → u ≡ v
    one_name a u v p q = cc

    nothing_before : (a place : ℕ) → IsBefore a place 0 0 → ⊥
    nothing_before a place (inl h) = omega arith
    nothing_before a place (inr h) = let l = h.1 in omega arith

module _ (es : Entries) (ok : IsGraph es) where
  abbrev AreJoined : List ℕ → Type 0
  AreJoined sets = (a b : ℕ) (u v : Name) → slice_get (keys_of es) a ≡ Some u → slice_get (keys_of es) b ≡ Some v → set_of sets a ≡ set_of sets b → InOneIsland (graph_of es) u v

  -- sets whose positions lie in one island move together where two of these positions do
  joined-moved : (from to : ℕ) (old new : List ℕ) (x y : ℕ) (s t : Name) → length old ≡ length (keys_of es) → MovesSet from to old new → AreJoined old → slice_get (keys_of es) x ≡ Some s → slice_get (keys_of es) y ≡ Some t → set_of old x ≡ from → set_of old y ≡ to → InOneIsland (graph_of es) s t → AreJoined new
  joined-moved from to old new x y s t len m j px py fx ty link a b u v p q e = by (were from to old new m a b (within a u p) (within b v q) e)
    where
      within : (c : ℕ) (w : Name) → slice_get (keys_of es) c ≡ Some w → c < length old
      within c w r = let h = slice_get_within (keys_of es) c w r in omega (arith, len)

      by : (set_of old a ≡ set_of old b) ⊎ (((set_of old a ≡ from) × (set_of old b ≡ to)) ⊎ ((set_of old a ≡ to) × (set_of old b ≡ from))) → InOneIsland (graph_of es) u v
      by (inl h) = j a b u v p q h
      by (inr (inl h)) =
          island_trans (graph_of es) u s v (j a x u s p px (h.0 ∙ sym fx)) (island_trans (graph_of es) s t v link (j y b t v py q (ty ∙ sym h.1)))
      by (inr (inr h)) =
          island_trans (graph_of es) u t v (j a y u t p py (h.0 ∙ sym ty)) (island_trans (graph_of es) t s v (island_sym (graph_of es) s t link) (j x b s v px q (fx ∙ sym h.1)))

  -- ---- one more edge
  module _ (i here : ℕ) (old : DisjointSets) (s : JoinedUpTo es old i here) where
    within_sets : (a : ℕ) → a < length (keys_of es) → a < length old.sets.items
    within_sets a h = subst (λ n. a < n) (sym s.len) h

    pub joined-skip : linked_end es i here ≡ None → JoinedUpTo es old i (here + 1)
    joined-skip none = record { sets = s.sets; len = s.len; joined = s.joined; there = λ a place b h e. by a place b e (before es i here a place h) }
      where
        by : (a place b : ℕ) → linked_end es a place ≡ Some b → IsBefore a place i here ⊎ ((a ≡ i) × (place ≡ here)) → set_of old.sets.items a ≡ set_of old.sets.items b
        by a place b e (inl h) = s.there a place b h e
        by a place b e (inr h) = let q : linked_end es a place ≡ linked_end es i here = (λ k. linked_end es (h.0 k) (h.1 k)) in absurd (cc)

    module _ (new : DisjointSets) (end : ℕ) (e : linked_end es i here ≡ Some end) (joins : JoinsSets i end old new) where
      first : i < length (keys_of es)
      first = row_there es ok i here end e

      second : end < length (keys_of es)
      second = end_within es ok i here end e

      name_i : slice_get (keys_of es) i ≡ Some (get_or (keys_of es) i [])
      name_i = slice_get-get_or (keys_of es) i [] first

      name_end : slice_get (keys_of es) end ≡ Some (get_or (keys_of es) end [])
      name_end = slice_get-get_or (keys_of es) end [] second

      link : InOneIsland (graph_of es) (get_or (keys_of es) i []) (get_or (keys_of es) end [])
      link = island_link (graph_of es) (get_or (keys_of es) i []) (get_or (keys_of es) end []) (place-known (keys_of es) i (get_or (keys_of es) i []) name_i) (place-known (keys_of es) end (get_or (keys_of es) end []) name_end) (edge-linked es ok i here end (get_or (keys_of es) i []) (get_or (keys_of es) end []) name_i name_end e)

      abbrev Joined : Type 0
      Joined = MovesSet (set_of old.sets.items i) (set_of old.sets.items end) old.sets.items new.sets.items ⊎ MovesSet (set_of old.sets.items end) (set_of old.sets.items i) old.sets.items new.sets.items

      len : Joined → length new.sets.items ≡ length (keys_of es)
      len (inl m) = m.len ∙ s.len
      len (inr m) = m.len ∙ s.len

      joined : Joined → AreJoined new.sets.items
      joined (inl m) =
          joined-moved (set_of old.sets.items i) (set_of old.sets.items end) old.sets.items new.sets.items i end (get_or (keys_of es) i []) (get_or (keys_of es) end []) s.len m s.joined name_i name_end refl refl link
      joined (inr m) =
          joined-moved (set_of old.sets.items end) (set_of old.sets.items i) old.sets.items new.sets.items end i (get_or (keys_of es) end []) (get_or (keys_of es) i []) s.len m s.joined name_end name_i refl refl (island_sym (graph_of es) (get_or (keys_of es) i []) (get_or (keys_of es) end []) link)

      meet : Joined → set_of new.sets.items i ≡ set_of new.sets.items end
      meet (inl m) = ends-meet (set_of old.sets.items i) (set_of old.sets.items end) old.sets.items new.sets.items m i end (within_sets i first) (within_sets end second) refl refl
      meet (inr m) = sym (ends-meet (set_of old.sets.items end) (set_of old.sets.items i) old.sets.items new.sets.items m end i (within_sets end second) (within_sets i first) refl refl)

      pub joined-edge : JoinedUpTo es new i (here + 1)
      joined-edge = record { sets = joins.sets; len = len joins.joined; joined = joined joins.joined; there = λ a place b h q. by a place b q (before es i here a place h) }
        where
          by : (a place b : ℕ) → linked_end es a place ≡ Some b → IsBefore a place i here ⊎ ((a ≡ i) × (place ≡ here)) → set_of new.sets.items a ≡ set_of new.sets.items b
          by a place b q (inl h) = (together-joined i end old new joins).together a b (within_sets a (row_there es ok a place b q)) (within_sets b (end_within es ok a place b q)) (s.there a place b h q)
          by a place b q (inr h) =
              let p : linked_end es a place ≡ linked_end es i here = (λ k. linked_end es (h.0 k) (h.1 k)) in
              let is : end ≡ b = cc in
              ap (set_of new.sets.items) h.0 ∙ meet joins.joined ∙ ap (set_of new.sets.items) is

  pub joined-row : (i : ℕ) (d : DisjointSets) → JoinedUpTo es d i (length (row_number es i)) → JoinedUpTo es d (i + 1) 0
  joined-row i d s = record { sets = s.sets; len = s.len; joined = s.joined; there = λ a place b h e. s.there a place b (row-before es i a place b e h) e }

  -- where all positions are in one set, no edge is left to join
  pub joined-early : (i n : ℕ) (d : DisjointSets) → JoinedUpTo es d i 0 → AreInOne d.sets.items n → length (keys_of es) ≤ n → JoinedUpTo es d (length (keys_of es)) 0
  joined-early i n d s one h = record {
    sets = s.sets;
    len = s.len;
    joined = s.joined;
    there = λ a place b _ e. (let l = row_there es ok a place b e in one.one a (omega arith)) ∙ sym (let l = end_within es ok a place b e in one.one b (omega arith));
  }

  -- ---- all edges
  module _ (d : DisjointSets) (s : JoinedUpTo es d (length (keys_of es)) 0) where
    one_place : (a b : ℕ) (v : Name) → slice_get (keys_of es) a ≡ Some v → slice_get (keys_of es) b ≡ Some v → a ≡ b
    one_place a b v p q = let e = position-at (keys_of es) ok.apart a v p in let f = position-at (keys_of es) ok.apart b v q in cc

    edge_joined : (a b : ℕ) → (place : ℕ) × ((linked_end es a place ≡ Some b) ⊎ (linked_end es b place ≡ Some a)) → set_of d.sets.items a ≡ set_of d.sets.items b
    edge_joined a b (place, inl e) = s.there a place b (whole_before es ok a place b e) e
    edge_joined a b (place, inr e) = sym (s.there b place a (whole_before es ok b place a e) e)

    chain_joined : (chain : List Name) (a b : ℕ) (u v : Name) → slice_get (keys_of es) a ≡ Some u → slice_get (keys_of es) b ≡ Some v → IsChain (graph_of es) u chain v → set_of d.sets.items a ≡ set_of d.sets.items b
    chain_joined [] a b u v p q c = ap (set_of d.sets.items) (one_place a b v (p ∙ ap Some c.0) q)
    chain_joined (w ∷ chain) a b u v p q c =
        let m = place_of (keys_of es) w (starts (graph_of es) w chain v c.2) in
        edge_joined a m.0 (linked-edge es ok a m.0 u w p m.1 c.1) ∙ chain_joined chain m.0 b w v m.1 q c.2

    within : (a : ℕ) (u : Name) → slice_get (keys_of es) a ≡ Some u → a < length d.sets.items
    within a u p = subst (λ n. a < n) (sym s.len) (slice_get_within (keys_of es) a u p)

    pub joined-islands : (numbers : List ℕ) → NumberSets d.sets.items numbers → AreIslands (graph_of es) numbers
    joined-islands numbers n = record {
      len = n.len ∙ s.len;
      exact = λ a b u v p q.
          let e = n.exact a b (within a u p) (within b v q) in
          (λ h. s.joined a b u v p q (e.0 h), λ c. e.1 (chain_joined c.0 a b u v p q c.1));
      ordered = n.ordered;
    }
