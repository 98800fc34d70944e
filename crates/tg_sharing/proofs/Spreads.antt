-- A flood from one vertex: what was met stays in its island, and at the end is all of it.
use Rattle.std.proofs.Common.{◌≡◌, ℕ, ◌+◌, ◌*◌, cond, ◌<◌, ◌≤◌, Bool, true, false, ◌&&◌, ◌⊎◌, inl, inr, List, [], ◌∷◌, length, replicate, Option, Some, None, get_or, slice_get, is_some, nat_eq, bytes_eq, refl, sym, ap, ◌∙◌, subst, IsTrue, MatchBool, arith, lit<, length-append}
use Rattle.std.specs.Prelude.{not, count_by}
use Rattle.std.specs.List.{list_any, position}
use Rattle.std.specs.Map.{keys_of}
use Rattle.std.specs.Option.{option_and_then}
use Rattle.std.proofs.lemmas.Bool.{true≢false, cases_Bool, cases_lt, or_cases, or_left, or_right, eq-eqb, eqb-true}
use Rattle.std.proofs.lemmas.List.{get_or-replicate, length-replicate}
use Rattle.std.proofs.Math.ListN.{get_or-eq_default}
use Rattle.std.proofs.lemmas.Option.{slice_get_within, slice_get-get_or}
use Rattle.std.proofs.lemmas.List.Folds.{sum_by-replicate}
use Rattle.tg_names.specs.declared.right_sets.Right.{Right}
use Rattle.tg_names.specs.declared.right_sets.Rights.{Rights}
use Rattle.tg_names.specs.Sets.{member, rights_where, is_empty_set, nothing, IsNamed}
use Rattle.tg_names.proofs.Sets.{member-where, member-nothing, named-where, same_set}
use Rattle.tg_names.specs.Names.{Name}
use Rattle.tg_graph.specs.Graphs.{ProtectionGraph, has_vertex, WellFormed}
use Rattle.tg_graph.specs.GraphOf.{graph_of}
use Rattle.tg_rows.specs.Rows.{Entries, IsGraph, row_number, label_in}
use Rattle.tg_sharing.specs.declared.flooding.Flood.{Flood}
use Rattle.tg_sharing.specs.declared.spreading.Asked.{Asked}
use Rattle.tg_sharing.specs.declared.spreading.Spread.{Spread}
use Rattle.tg_islands.specs.Sharing.{linked, InOneIsland, HeldInIsland}
use Rattle.tg_islands.specs.Linked.{NeighbourLists, neighbours, is_near, linked_end, AddsNeighbour}
use Rattle.tg_sharing.specs.Flooding.{number_at, work_left, Meets}
use Rattle.tg_islands.specs.Numbering.{number_in}
use Rattle.tg_islands.specs.Positions.{IsOneOf}
use Rattle.tg_sharing.specs.Spreading.{IsMet, HoldsNone, IsMissing, BeginsAt, FollowsOn, ReadsEdge, ReadsUpTo, Reads, IsSpread, HasRead, IsAtRest, RunsOut}
use Rattle.tg_islands.proofs.Places.{position-at, place_of, place-known, holds-row}
use Rattle.tg_islands.proofs.OneIsland.{linked_sym, island_refl, island_link, island_trans}
use Rattle.tg_islands.proofs.Linked.{edge-linked, linked-edge, row_there, end_within, place_within}
use Rattle.tg_islands.proofs.Floods.{flood_has_island}
use Rattle.tg_sharing.proofs.FloodSteps.{some_kept, TakesLast}
use Rattle.tg_islands.proofs.OneOf.{one_of-append, one_of-left, one_of-right, one_of-single, single-one_of}
use Rattle.tg_sharing.proofs.Underway.{linked_ends}

none_of : {A : Type 0} (a : ℕ) → IsOneOf a [] → A
none_of a h = absurd (true≢false (sym h))

-- what is met by now was met before, or is one of those that were met now, and waits
newly : (ps : List ℕ) (s t : Flood) → Meets ps s t → (a : ℕ) → is_some (number_at t a) ≡ true → (is_some (number_at s a) ≡ true) ⊎ (IsOneOf a ps × IsOneOf a t.waiting.items)
newly ps s t m a h = go (number_at s a) refl
  where
    joined : (number_at t a ≡ None) ⊎ ((number_at t a ≡ Some s.current) × IsOneOf a ps × IsOneOf a t.waiting.items) → IsOneOf a ps × IsOneOf a t.waiting.items
    joined (inl none) = absurd (true≢false (sym h ∙ ap is_some none))
    joined (inr now) = (now.1, now.2)

    go : (o : Option ℕ) → number_at s a ≡ o → (is_some (number_at s a) ≡ true) ⊎ (IsOneOf a ps × IsOneOf a t.waiting.items)
    go None e = inr (joined (m.numbered a e))
    go (Some n) e = inl (ap is_some e)

-- what waits was met
waits_met : (ps : List ℕ) (s t : Flood) → Meets ps s t → ((a : ℕ) → IsOneOf a s.waiting.items → is_some (number_at s a) ≡ true) → (a : ℕ) → IsOneOf a t.waiting.items → is_some (number_at t a) ≡ true
waits_met ps s t m before a h = go (m.waits a h)
  where
    go : IsOneOf a s.waiting.items ⊎ ((number_at s a ≡ None) × (number_at t a ≡ Some s.current)) → is_some (number_at t a) ≡ true
    go (inl w) = some_kept s t m.kept a (before a w)
    go (inr now) = ap is_some now.1

-- a number stands within the list
number_within : (numbers : List (Option ℕ)) (a : ℕ) → is_some (number_in numbers a) ≡ true → a < length numbers
number_within numbers a h = go (cases_lt a (length numbers))
  where
    go : (a < length numbers) ⊎ (length numbers ≤ a) → a < length numbers
    go (inl lt) = lt
    go (inr le) = absurd (true≢false (sym h ∙ ap is_some (get_or-eq_default numbers None le)))

-- the empty set has no member
pub none_among : (s : Rights) → IsTrue (is_empty_set s) → (right : Right) → IsTrue (member s right) → ⊥
none_among s e right m = true≢false (sym m ∙ ap (λ n. member (record { 0 = n }) right) (eqb-true s.0 0 e) ∙ member-nothing right)

-- ---- a row is read
module _ (es : Entries) (i : ℕ) where
  both : (a b : Bool) → (a && b) ≡ true → (a ≡ true) × (b ≡ true)
  both true true h = (refl, refl)
  both true false h = absurd (true≢false (sym h))
  both false b h = absurd (true≢false (sym h))

  pub reads-next : (here : ℕ) (s t u : Spread) → ReadsUpTo es i here s t → ReadsEdge es i here false t u → ReadsUpTo es i (here + 1) s u
  reads-next here s t u m e = go (linked_end es i here) refl
    where
      past : (place b : ℕ) → linked_end es i place ≡ Some b → place < here + 1 → (is_near t.back b i ≡ true) ⊎ (linked_end es i here ≡ Some b)
      past place b is h = cases (cases_lt place here)
        where
          cases : (place < here) ⊎ (here ≤ place) → (is_near t.back b i ≡ true) ⊎ (linked_end es i here ≡ Some b)
          cases (inl lt) = inl (m.there place b lt is)
          cases (inr le) = let same : place ≡ here = omega arith in inr (subst (λ k. linked_end es i k ≡ Some b) same is)

      go : (o : Option ℕ) → linked_end es i here ≡ o → ReadsUpTo es i (here + 1) s u
      go None none =
          let same : u.back ≡ t.back = e.4 none in
          record {
            flood = e.0 ∙ m.flood;
            followed = e.1 ∙ m.followed;
            missing = e.2 ∙ m.missing;
            len = ap length same ∙ m.len;
            kept = λ b c h. ap (λ lists. is_near lists b c) same ∙ m.kept b c h;
            from = λ b c h. m.from b c (ap (λ lists. is_near lists b c) (sym same) ∙ h);
            there = λ place b h is. elim (past place b is h) [ inl near ↦ ap (λ lists. is_near lists b i) same ∙ near | inr now ↦ absurd (nowhere b now) ];
          }
        where
          nowhere : (b : ℕ) → linked_end es i here ≡ Some b → ⊥
          nowhere b now = absurd (cc)
      go (Some end) some = record {
        flood = e.0 ∙ m.flood;
        followed = e.1 ∙ m.followed;
        missing = e.2 ∙ m.missing;
        len = adds.len ∙ m.len;
        kept = λ b c h. adds.near b c ∙ or_left (is_near t.back b c) _ (m.kept b c h);
        from = λ b c h. from b c (or_cases (is_near t.back b c) (nat_eq b end && nat_eq c i) (sym (adds.near b c) ∙ h));
        there = λ place b h is. elim (past place b is h) [ inl near ↦ adds.near b i ∙ or_left (is_near t.back b i) _ near | inr now ↦ added b now ];
      }
        where
          adds : AddsNeighbour t.back u.back end i
          adds = (e.3 end some).1

          unmet : (b : ℕ) → b ≡ end → IsMet s b → ⊥
          unmet b is met = (e.3 end some).0 (ap (λ flood. is_some (number_at flood end)) m.flood ∙ subst (λ n. IsMet s n) is met)

          from : (b c : ℕ) → (is_near t.back b c ≡ true) ⊎ ((nat_eq b end && nat_eq c i) ≡ true) → (is_near s.back b c ≡ true) ⊎ ((c ≡ i) × (IsMet s b → ⊥) × (place : ℕ) × (linked_end es i place ≡ Some b))
          from b c (inl h) = m.from b c h
          from b c (inr h) =
              let ends = both (nat_eq b end) (nat_eq c i) h in
              let is : b ≡ end = eqb-true b end ends.0 in
              inr (eqb-true c i ends.1, unmet b is, here, some ∙ ap Some (sym is))

          added : (b : ℕ) → linked_end es i here ≡ Some b → is_near u.back b i ≡ true
          added b now =
              let is : b ≡ end = cc in
              adds.near b i ∙ or_right (is_near t.back b i) _ ((λ k. eq-eqb b end is k && eq-eqb i i refl k))

  pub reads-met : (here : ℕ) (s t u v : Spread) → ReadsUpTo es i here s t → ReadsEdge es i here true t u → Meets (i ∷ []) u.flood v.flood → v.back ≡ u.back → v.followed ≡ u.followed → v.missing ≡ u.missing → Reads es i s v
  reads-met here s t u v m e meets back followed missing = inr (record {
    here = here;
    between = u;
    reads = subst (λ w. ReadsUpTo es i here s w) (sym e.3) m;
    end = e.0;
    edge = e.1;
    met = ap (λ flood. is_some (number_at flood e.0)) (sym m.flood) ∙ e.2;
    meets = meets;
    back = back;
    followed = followed;
    missing = missing;
  })

  -- a row that is read leaves what is missing
  pub reads_missing : (s t : Spread) → Reads es i s t → t.missing ≡ s.missing
  reads_missing s t (inl r) = r.missing
  reads_missing s t (inr r) = r.missing ∙ r.reads.missing

  pub reads_back_len : (s t : Spread) → Reads es i s t → length t.back ≡ length s.back
  reads_back_len s t (inl r) = r.len
  reads_back_len s t (inr r) = ap length r.back ∙ r.reads.len

module _ (es : Entries) (ok : IsGraph es) (asked : Asked) where
  abbrev g : ProtectionGraph
  g = graph_of es

  -- a position that was met has a vertex
  vertex_at : (spread : Spread) (a : ℕ) → length spread.flood.numbers.items ≡ length (keys_of es) → IsMet spread a → (u : Name) × (slice_get (keys_of es) a ≡ Some u)
  vertex_at spread a len met = let lt = number_within spread.flood.numbers.items a met in (get_or (keys_of es) a [], slice_get-get_or (keys_of es) a [] (omega (arith, lt, len)))

  -- an edge that links, in either direction
  abbrev Edge : ℕ → ℕ → Type 0
  Edge a b = (place : ℕ) × ((linked_end es a place ≡ Some b) ⊎ (linked_end es b place ≡ Some a))

  edge_island : (a b : ℕ) (u v : Name) → slice_get (keys_of es) a ≡ Some u → slice_get (keys_of es) b ≡ Some v → Edge a b → InOneIsland g u v
  edge_island a b u v p q e = island_link g u v (place-known (keys_of es) a u p) (place-known (keys_of es) b v q) (link e)
    where
      link : Edge a b → IsTrue (linked g u v)
      link (place, inl e) = edge-linked es ok a place b u v p q e
      link (place, inr e) = linked_sym g v u (edge-linked es ok b place a v u q p e)

  -- ---- positions are met
  pub spread-meets : (missing : Rights) (pending later ps : List ℕ) (s t : Spread) → IsSpread es asked missing pending s → Meets ps s.flood t.flood → t.back ≡ s.back → t.followed ≡ s.followed
      → ((a : ℕ) → IsOneOf a ps → (c : ℕ) × IsMet s c × Edge a c)
      → ((a : ℕ) → IsOneOf a pending → IsOneOf a later) → ((a : ℕ) → IsOneOf a t.flood.waiting.items → IsOneOf a later) → ((a : ℕ) → IsOneOf a later → IsMet t a)
      → IsSpread es asked missing later t
  spread-meets missing pending later ps s t is m back followed reach keep fresh pends = record {
    len = m.len ∙ is.len;
    count = omega (arith, is.count, m.work, followed);
    back_from = λ a b h. is.back_from a b (was a b h);
    inside = λ a u p h. inside a u p (newly ps s.flood t.flood m a h);
    start = λ a p. grow a (is.start a p);
    pends = pends;
    none = λ a h. none a (newly ps s.flood t.flood m a h);
    ahead = λ a place b h e. ahead a place b e (newly ps s.flood t.flood m a h);
    behind = λ a b h near. behind a b (was a b near) (newly ps s.flood t.flood m b h);
  }
    where
      grow : (a : ℕ) → IsMet s a → IsMet t a
      grow a h = some_kept s.flood t.flood m.kept a h

      was : (a b : ℕ) → is_near t.back b a ≡ true → is_near s.back b a ≡ true
      was a b h = ap (λ back. is_near back b a) (sym back) ∙ h

      inside : (a : ℕ) (u : Name) → slice_get (keys_of es) a ≡ Some u → IsMet s a ⊎ (IsOneOf a ps × IsOneOf a t.flood.waiting.items) → InOneIsland g asked.x u
      inside a u p (inl h) = is.inside a u p h
      inside a u p (inr h) =
          let c = reach a h.0 in
          let v = vertex_at s c.0 is.len c.1 in
          island_trans g asked.x v.0 u (is.inside c.0 v.0 v.1 c.1) (edge_island c.0 a v.0 u v.1 p (turn c.2))
        where
          turn : {c : ℕ} → Edge a c → Edge c a
          turn (place, inl e) = (place, inr e)
          turn (place, inr e) = (place, inl e)

      none : (a : ℕ) → IsMet s a ⊎ (IsOneOf a ps × IsOneOf a t.flood.waiting.items) → IsOneOf a later ⊎ HoldsNone g missing asked.y a
      none a (inl h) = elim (is.none a h) [ inl w ↦ inl (keep a w) | inr n ↦ inr n ]
      none a (inr h) = inl (fresh a h.1)

      ahead : (a place b : ℕ) → linked_end es a place ≡ Some b → IsMet s a ⊎ (IsOneOf a ps × IsOneOf a t.flood.waiting.items) → IsOneOf a later ⊎ IsMet t b
      ahead a place b e (inl h) = elim (is.ahead a place b h e) [ inl w ↦ inl (keep a w) | inr n ↦ inr (grow b n) ]
      ahead a place b e (inr h) = inl (fresh a h.1)

      behind : (a b : ℕ) → is_near s.back b a ≡ true → IsMet s b ⊎ (IsOneOf b ps × IsOneOf b t.flood.waiting.items) → IsOneOf b later ⊎ IsMet t a
      behind a b near (inl h) = elim (is.behind a b h near) [ inl w ↦ inl (keep b w) | inr n ↦ inr (grow a n) ]
      behind a b near (inr h) = inl (fresh b h.1)

  -- ---- a position is done
  spread-drop : (missing : Rights) (p : ℕ) (rest : List ℕ) (s : Spread) → IsSpread es asked missing (p ∷ rest) s → HoldsNone g missing asked.y p → ((place b : ℕ) → linked_end es p place ≡ Some b → IsMet s b) → ((a : ℕ) → is_near s.back p a ≡ true → IsMet s a) → IsSpread es asked missing rest s
  spread-drop missing p rest s is idle ahead behind = record {
    len = is.len;
    count = is.count;
    back_from = is.back_from;
    inside = is.inside;
    start = is.start;
    pends = λ a h. is.pends a (or_right (nat_eq a p) _ h);
    none = λ a h. none a (is.none a h);
    ahead = λ a place b h e. further a place b e (is.ahead a place b h e);
    behind = λ a b h near. back a b near (is.behind a b h near);
  }
    where
      split : (a : ℕ) → IsOneOf a (p ∷ rest) → (a ≡ p) ⊎ IsOneOf a rest
      split a h = elim (or_cases (nat_eq a p) (list_any (nat_eq a) rest) h) [ inl e ↦ inl (eqb-true a p e) | inr e ↦ inr e ]

      none : (a : ℕ) → IsOneOf a (p ∷ rest) ⊎ HoldsNone g missing asked.y a → IsOneOf a rest ⊎ HoldsNone g missing asked.y a
      none a (inl h) = elim (split a h) [ inl e ↦ inr (subst (λ n. HoldsNone g missing asked.y n) (sym e) idle) | inr w ↦ inl w ]
      none a (inr n) = inr n

      further : (a place b : ℕ) → linked_end es a place ≡ Some b → IsOneOf a (p ∷ rest) ⊎ IsMet s b → IsOneOf a rest ⊎ IsMet s b
      further a place b e (inl h) = elim (split a h) [ inl q ↦ inr (ahead place b (subst (λ n. linked_end es n place ≡ Some b) q e)) | inr w ↦ inl w ]
      further a place b e (inr n) = inr n

      back : (a b : ℕ) → is_near s.back b a ≡ true → IsOneOf b (p ∷ rest) ⊎ IsMet s a → IsOneOf b rest ⊎ IsMet s a
      back a b near (inl h) = elim (split b h) [ inl q ↦ inr (behind a (subst (λ n. is_near s.back n a ≡ true) q near)) | inr w ↦ inl w ]
      back a b near (inr n) = inr n

  -- the last of those that wait is taken
  pub spread-takes : (missing : Rights) (p : ℕ) (old new : Spread) → IsSpread es asked missing old.flood.waiting.items old → TakesLast p old.flood new.flood → new.back ≡ old.back → new.followed ≡ old.followed + 1 → IsSpread es asked missing (p ∷ new.flood.waiting.items) new
  spread-takes missing p old new is takes back followed = record {
    len = ap (λ numbers. length numbers.items) takes.numbers ∙ is.len;
    count = omega (arith, is.count, followed, ap length takes.waiting, length-append new.flood.waiting.items (p ∷ []), ap (λ numbers. count_by (λ number. not (is_some number)) numbers.items) takes.numbers);
    back_from = λ a b h. is.back_from a b (was a b h);
    inside = λ a u q h. is.inside a u q (before a h);
    start = λ a q. now a (is.start a q);
    pends = λ a h. now a (is.pends a (waited a h));
    none = λ a h. elim (is.none a (before a h)) [ inl w ↦ inl (waits a w) | inr n ↦ inr n ];
    ahead = λ a place b h e. elim (is.ahead a place b (before a h) e) [ inl w ↦ inl (waits a w) | inr n ↦ inr (now b n) ];
    behind = λ a b h near. elim (is.behind a b (before b h) (was a b near)) [ inl w ↦ inl (waits b w) | inr n ↦ inr (now a n) ];
  }
    where
      now : (a : ℕ) → IsMet old a → IsMet new a
      now a h = ap (λ numbers. is_some (number_in numbers.items a)) takes.numbers ∙ h

      before : (a : ℕ) → IsMet new a → IsMet old a
      before a h = ap (λ numbers. is_some (number_in numbers.items a)) (sym takes.numbers) ∙ h

      was : (a b : ℕ) → is_near new.back b a ≡ true → is_near old.back b a ≡ true
      was a b h = ap (λ lists. is_near lists b a) (sym back) ∙ h

      waits : (a : ℕ) → IsOneOf a old.flood.waiting.items → IsOneOf a (p ∷ new.flood.waiting.items)
      waits a h = elim (one_of-append a new.flood.waiting.items (p ∷ []) (subst (IsOneOf a) takes.waiting h)) [ inl w ↦ or_right (nat_eq a p) _ w | inr e ↦ or_left (nat_eq a p) _ (eq-eqb a p (one_of-single a p e)) ]

      waited : (a : ℕ) → IsOneOf a (p ∷ new.flood.waiting.items) → IsOneOf a old.flood.waiting.items
      waited a h = subst (IsOneOf a) (sym takes.waiting) (elim (or_cases (nat_eq a p) (list_any (nat_eq a) new.flood.waiting.items) h) [ inl e ↦ one_of-right a new.flood.waiting.items (p ∷ []) (subst (λ n. IsOneOf n (p ∷ [])) (sym (eqb-true a p e)) (single-one_of p)) | inr w ↦ one_of-left a new.flood.waiting.items (p ∷ []) w ])

  -- ---- what a position holds is missing no more
  module _ (p : ℕ) (missing held left : Rights) (is_held : held ≡ label_in (row_number es p) asked.y) (is_left : left ≡ rights_where (λ right. member missing right && not (member held right))) where
    left_has : (right : Right) → member left right ≡ (member missing right && not (member held right))
    left_has right = ap (λ s. member s right) is_left ∙ member-where (λ one. member missing one && not (member held one)) right

    holds_at : (u : Name) → slice_get (keys_of es) p ≡ Some u → (right : Right) → g.holds u right asked.y ≡ member held right
    holds_at u at right = holds-row es ok p u at right asked.y ∙ ap (λ s. member s right) (sym is_held)

    of_left : (right : Right) → IsTrue (member left right) → IsTrue (member missing right) × (member held right ≡ false)
    of_left right m = parts (member missing right) (member held right) (sym (left_has right) ∙ m)
      where
        parts : (a b : Bool) → (a && not b) ≡ true → (a ≡ true) × (b ≡ false)
        parts true false h = (refl, refl)
        parts true true h = absurd (true≢false (sym h))
        parts false b h = absurd (true≢false (sym h))

    pub still_missing : (rest : List ℕ) (s : Spread) → IsSpread es asked missing (p ∷ rest) s → IsMissing es asked missing → IsMissing es asked left
    still_missing rest s is m = record {
      named = subst IsNamed (sym is_left) (named-where (λ right. member missing right && not (member held right)));
      among = λ right h. m.among right (of_left right h).0;
      found = λ right h. by right (m.found right h);
    }
      where
        met : IsMet s p
        met = is.pends p (or_left (nat_eq p p) _ (eq-eqb p p refl))

        reached : (right : Right) → member held right ≡ true → HeldInIsland g right asked.x asked.y
        reached right e = let at = vertex_at s p is.len met in (at.0, holds_at at.0 at.1 right ∙ e, is.inside p at.0 at.1 met)

        by : (right : Right) → IsTrue (member missing right) ⊎ HeldInIsland g right asked.x asked.y → IsTrue (member left right) ⊎ HeldInIsland g right asked.x asked.y
        by right (inl m) = elim (cases_Bool (member held right)) [ inl e ↦ inr (reached right e) | inr e ↦ inl (left_has right ∙ (λ i. m i && not (e i))) ]
        by right (inr h) = inr h

    pub holds_no_other : HoldsNone g left asked.y p
    holds_no_other right m h = true≢false (sym h.holds ∙ holds_at h.name h.place right ∙ (of_left right m).1)

    pub spread-narrows : (pending : List ℕ) (s : Spread) → IsSpread es asked missing pending s → IsSpread es asked left pending s
    spread-narrows pending s is = record {
      len = is.len;
      count = is.count;
      back_from = is.back_from;
      inside = is.inside;
      start = is.start;
      pends = is.pends;
      none = λ a h. elim (is.none a h) [ inl w ↦ inl w | inr n ↦ inr (λ right m. n right (of_left right m).0) ];
      ahead = is.ahead;
      behind = is.behind;
    }

  -- ---- what is linked to a position is met
  module _ (missing : Rights) (p : ℕ) where
    first : (rest : List ℕ) → IsOneOf p (p ∷ rest)
    first rest = or_left (nat_eq p p) _ (eq-eqb p p refl)

    spread-from : (ps : List ℕ) (s t : Spread) → IsSpread es asked missing (p ∷ s.flood.waiting.items) s → Meets ps s.flood t.flood → t.back ≡ s.back → t.followed ≡ s.followed → ((a : ℕ) → IsOneOf a ps → Edge a p) → IsSpread es asked missing (p ∷ t.flood.waiting.items) t
    spread-from ps s t is m back followed reach =
        spread-meets missing (p ∷ s.flood.waiting.items) (p ∷ t.flood.waiting.items) ps s t is m back followed (λ a h. (p, is.pends p (first s.flood.waiting.items), reach a h)) (λ a h. elim (split a s.flood.waiting.items h) [ inl e ↦ or_left (nat_eq a p) _ e | inr w ↦ or_right (nat_eq a p) _ (m.still_waits a w) ]) (λ a h. or_right (nat_eq a p) _ h) (λ a h. pends a (split a t.flood.waiting.items h))
      where
        split : (a : ℕ) (rest : List ℕ) → IsOneOf a (p ∷ rest) → (nat_eq a p ≡ true) ⊎ IsOneOf a rest
        split a rest h = or_cases (nat_eq a p) (list_any (nat_eq a) rest) h

        pends : (a : ℕ) → (nat_eq a p ≡ true) ⊎ IsOneOf a t.flood.waiting.items → IsMet t a
        pends a (inl e) = some_kept s.flood t.flood m.kept a (is.pends a (or_left (nat_eq a p) _ e))
        pends a (inr w) = waits_met ps s.flood t.flood m (λ b h. is.pends b (or_right (nat_eq b p) _ h)) a w

    pub spread-follows : (s t : Spread) → IsSpread es asked missing (p ∷ s.flood.waiting.items) s → HoldsNone g missing asked.y p → FollowsOn es p s t → IsSpread es asked missing t.flood.waiting.items t
    spread-follows s t is idle (inl f) =
        let between : Spread = record s { flood = f.between } in
        spread-drop missing p t.flood.waiting.items t (spread-from (neighbours s.back p) between t (spread-from f.ahead.positions s between is f.ahead.meets refl refl (λ a h. let e = f.ahead.only a h in (e.0, inr e.1))) f.behind f.back f.followed (λ a h. let e = is.back_from a p h in (e.0, inl e.1))) idle (λ place b e. some_kept f.between t.flood f.behind.kept b (f.ahead.meets.met b (f.ahead.all place b (place_within es p place b e) e))) (λ a near. f.behind.met a (ap (λ lists. is_near lists p a) (sym f.back) ∙ near))
    spread-follows s t is idle (inr all) =
        subst (λ u. IsSpread es asked missing u.flood.waiting.items u) (sym all.1) (spread-drop missing p s.flood.waiting.items s is idle (λ place b e. all.0 b (end_within es ok p place b e)) (λ a near. let e = is.back_from a p near in all.0 a (row_there es ok a e.0 p e.1)))

  -- ---- what was there stays
  pub follows_back : (p : ℕ) (s t : Spread) → FollowsOn es p s t → t.back ≡ s.back
  follows_back p s t (inl f) = f.back
  follows_back p s t (inr all) = ap (λ u. u.back) all.1

  pub follows_followed : (p : ℕ) (s t : Spread) → FollowsOn es p s t → t.followed ≡ s.followed
  follows_followed p s t (inl f) = f.followed
  follows_followed p s t (inr all) = ap (λ u. u.followed) all.1

  pub follows_missing : (p : ℕ) (s t : Spread) → FollowsOn es p s t → t.missing ≡ s.missing
  follows_missing p s t (inl f) = f.missing
  follows_missing p s t (inr all) = ap (λ u. u.missing) all.1

  pub follows_grows : (p : ℕ) (s t : Spread) → FollowsOn es p s t → (a : ℕ) → IsMet s a → IsMet t a
  follows_grows p s t (inl f) a h = some_kept f.between t.flood f.behind.kept a (some_kept s.flood f.between f.ahead.meets.kept a h)
  follows_grows p s t (inr all) a h = subst (λ u. IsMet u a) (sym all.1) h

  -- ---- a row is read
  module _ (i : ℕ) where
    -- and the flood goes on
    pub rests : (left : Rights) (s t : Spread) → length s.back ≡ length (keys_of es) → HasRead es (i + 1) s → IsTrue (is_empty_set left) ⊎ RunsOut es asked left s t → IsTrue (is_empty_set left) ⊎ IsAtRest es asked left (i + 1) t
    rests left s t listed read (inl none) = inl none
    rests left s t listed read (inr ran) = inr (record {
      is_spread = ran.is_spread;
      back_len = ap length ran.back ∙ listed;
      calm = ran.calm;
      read = λ a place b lt e. elim (read a place b lt e) [ inl met ↦ inl (ran.grows a met) | inr near ↦ inr (ap (λ lists. is_near lists b a) ran.back ∙ near) ];
    })

    -- unless that is hopeless
    pub rests-unless : (Hopeless : Type 0) (left : Rights) (s t : Spread) → length s.back ≡ length (keys_of es) → HasRead es (i + 1) s → (hopeless : Bool) → MatchBool hopeless Hopeless (IsTrue (is_empty_set left) ⊎ RunsOut es asked left s t) → MatchBool hopeless Hopeless (IsTrue (is_empty_set left) ⊎ IsAtRest es asked left (i + 1) t)
    rests-unless Hopeless left s t listed read true h = h
    rests-unless Hopeless left s t listed read false h = rests left s t listed read h

    -- the lists have grown by edges to what was not met
    spread-notes : (missing : Rights) (here : ℕ) (s t : Spread) → IsSpread es asked missing [] s → ReadsUpTo es i here s t → IsSpread es asked missing [] t
    spread-notes missing here s t is r = record {
      len = ap (λ flood. length flood.numbers.items) r.flood ∙ is.len;
      count = omega (arith, is.count, ap work_left r.flood, r.followed);
      back_from = λ a b h. from a b (r.from b a h);
      inside = λ a u p h. is.inside a u p (before a h);
      start = λ a p. now a (is.start a p);
      pends = λ a h. none_of a h;
      none = λ a h. is.none a (before a h);
      ahead = λ a place b h e. elim (is.ahead a place b (before a h) e) [ inl w ↦ inl w | inr n ↦ inr (now b n) ];
      behind = λ a b h near. behind a b (before b h) (r.from b a near);
    }
      where
        now : (a : ℕ) → IsMet s a → IsMet t a
        now a h = ap (λ flood. is_some (number_at flood a)) r.flood ∙ h

        before : (a : ℕ) → IsMet t a → IsMet s a
        before a h = ap (λ flood. is_some (number_at flood a)) (sym r.flood) ∙ h

        from : (a b : ℕ) → (is_near s.back b a ≡ true) ⊎ ((a ≡ i) × (IsMet s b → ⊥) × (place : ℕ) × (linked_end es i place ≡ Some b)) → (place : ℕ) × (linked_end es a place ≡ Some b)
        from a b (inl h) = is.back_from a b h
        from a b (inr h) = (h.2, subst (λ n. linked_end es n h.2 ≡ Some b) (sym h.0) h.3)

        behind : (a b : ℕ) → IsMet s b → (is_near s.back b a ≡ true) ⊎ ((a ≡ i) × (IsMet s b → ⊥) × (place : ℕ) × (linked_end es i place ≡ Some b)) → IsOneOf b [] ⊎ IsMet t a
        behind a b h (inl near) = elim (is.behind a b h near) [ inl w ↦ inl w | inr n ↦ inr (now a n) ]
        behind a b h (inr new) = absurd (new.1 h)

    pub spread-reads : (missing : Rights) (s t : Spread) → IsSpread es asked missing [] s → s.flood.waiting.items ≡ [] → HasRead es i s → Reads es i s t → IsSpread es asked missing t.flood.waiting.items t × HasRead es (i + 1) t
    spread-reads missing s t is calm read (inl r) =
        (subst (λ waiting. IsSpread es asked missing waiting t) (sym (ap (λ flood. flood.waiting.items) r.flood ∙ calm)) (spread-notes missing (length (row_number es i)) s t is r), λ a place b h e. cases a place b e (cases_lt a i) h)
      where
        cases : (a place b : ℕ) → linked_end es a place ≡ Some b → (a < i) ⊎ (i ≤ a) → a < i + 1 → IsMet t a ⊎ (is_near t.back b a ≡ true)
        cases a place b e (inl lt) h = elim (read a place b lt e) [ inl met ↦ inl (ap (λ flood. is_some (number_at flood a)) r.flood ∙ met) | inr near ↦ inr (r.kept b a near) ]
        cases a place b e (inr le) h =
            let same : a ≡ i = omega arith in
            let edge : linked_end es i place ≡ Some b = subst (λ n. linked_end es n place ≡ Some b) same e in
            inr (subst (λ n. is_near t.back b n ≡ true) (sym same) (r.there place b (place_within es i place b edge) edge))
    spread-reads missing s t is calm read (inr r) =
        (spread-meets missing [] t.flood.waiting.items (i ∷ []) r.between t notes r.meets r.back r.followed (λ a h. (r.end, now r.end r.met, (r.here, inl (subst (λ n. linked_end es n r.here ≡ Some r.end) (sym (one_of-single a i h)) r.edge)))) (λ a h. none_of a h) (λ a h. h) (waits_met (i ∷ []) r.between.flood t.flood r.meets (λ a h. none_of a (subst (IsOneOf a) none_waits h))), λ a place b h e. cases a place b e (cases_lt a i) h)
      where
        notes : IsSpread es asked missing [] r.between
        notes = spread-notes missing r.here s r.between is r.reads

        none_waits : r.between.flood.waiting.items ≡ []
        none_waits = ap (λ flood. flood.waiting.items) r.reads.flood ∙ calm

        now : (a : ℕ) → IsMet s a → IsMet r.between a
        now a h = ap (λ flood. is_some (number_at flood a)) r.reads.flood ∙ h

        cases : (a place b : ℕ) → linked_end es a place ≡ Some b → (a < i) ⊎ (i ≤ a) → a < i + 1 → IsMet t a ⊎ (is_near t.back b a ≡ true)
        cases a place b e (inl lt) h = elim (read a place b lt e) [ inl met ↦ inl (some_kept r.between.flood t.flood r.meets.kept a (now a met)) | inr near ↦ inr (ap (λ lists. is_near lists b a) r.back ∙ r.reads.kept b a near) ]
        cases a place b e (inr le) h =
            let same : a ≡ i = omega arith in
            inl (r.meets.met a (subst (λ n. IsOneOf n (i ∷ [])) (sym same) (single-one_of i)))

  -- ---- the begin
  pub spread-begins : (missing rights : Rights) (count start : ℕ) (s : Spread) → count ≡ length (keys_of es) → slice_get (keys_of es) start ≡ Some asked.x → BeginsAt count start rights s → IsSpread es asked missing s.flood.waiting.items s
  spread-begins missing rights count start s whole at b = record {
    len = b.meets.len ∙ ap length b.clear ∙ length-replicate {A = Option ℕ} count None ∙ whole;
    count = omega (arith, b.meets.work, ap (λ numbers. count_by (λ number. not (is_some number)) numbers) b.clear, fresh_count count, ap length b.calm, b.followed, whole);
    back_from = λ a c h. absurd (no_list c a h);
    inside = λ a u p h. let is : a ≡ start = only a h in let same : slice_get (keys_of es) start ≡ Some u = subst (λ n. slice_get (keys_of es) n ≡ Some u) is p in let x : asked.x ≡ u = cc in subst (λ v. InOneIsland g asked.x v) x (island_refl g asked.x (place-known (keys_of es) start asked.x at));
    start = λ a p. let one : position (bytes_eq asked.x) (keys_of es) ≡ Some a = position-at (keys_of es) ok.apart a asked.x p in let two : position (bytes_eq asked.x) (keys_of es) ≡ Some start = position-at (keys_of es) ok.apart start asked.x at in let is : a ≡ start = cc in b.meets.met a (subst (λ n. IsOneOf n (start ∷ [])) (sym is) (single-one_of start));
    pends = waits_met (start ∷ []) b.before s.flood b.meets (λ a h. none_of a (subst (IsOneOf a) b.calm h));
    none = λ a h. inl (waits a h);
    ahead = λ a place c h e. inl (waits a h);
    behind = λ a c h near. absurd (no_list c a near);
  }
    where
      fresh_count : (n : ℕ) → count_by (λ (number : Option ℕ). not (is_some number)) (replicate n None) ≡ n
      fresh_count n = let sum : count_by (λ (number : Option ℕ). not (is_some number)) (replicate n None) ≡ n * 1 = sum_by-replicate (λ (number : Option ℕ). cond (not (is_some number)) 1 0) n None in omega (arith, sum)

      unmet : (a : ℕ) → number_at b.before a ≡ None
      unmet a = ap (λ numbers. number_in numbers a) b.clear ∙ by (cases_lt a count)
        where
          by : (a < count) ⊎ (count ≤ a) → number_in (replicate count None) a ≡ None
          by (inl h) = get_or-replicate count a None None h
          by (inr h) = get_or-eq_default (replicate count None) None (omega (arith, length-replicate {A = Option ℕ} count None))

      joined : (a : ℕ) → IsMet s a → IsOneOf a (start ∷ []) × IsOneOf a s.flood.waiting.items
      joined a h = elim (newly (start ∷ []) b.before s.flood b.meets a h) [ inl before ↦ absurd (true≢false (sym before ∙ ap is_some (unmet a))) | inr now ↦ now ]

      only : (a : ℕ) → IsMet s a → a ≡ start
      only a h = one_of-single a start (joined a h).0

      waits : (a : ℕ) → IsMet s a → IsOneOf a s.flood.waiting.items
      waits a h = (joined a h).1

      no_list : (c a : ℕ) → is_near s.back c a ≡ true → ⊥
      no_list c a h = true≢false (sym (ap (λ lists. is_near lists c a) (sym b.back) ∙ h) ∙ ap (list_any (nat_eq a)) (let none : NeighbourLists = [] in get_or-eq_default none [] {n = c} (omega arith)))

  -- ---- lists that are empty
  module _ (count : ℕ) (whole : count ≡ length (keys_of es)) where
    unlisted : (c a : ℕ) → is_near (replicate count []) c a ≡ true → ⊥
    unlisted c a h = true≢false (sym h ∙ ap (list_any (nat_eq a)) (by (cases_lt c count)))
      where
        by : (c < count) ⊎ (count ≤ c) → neighbours (replicate count []) c ≡ []
        by (inl h) = get_or-replicate count c [] [] h
        by (inr h) = get_or-eq_default (replicate count []) [] (omega (arith, length-replicate {A = List ℕ} count []))

    no_near : (t : Spread) → t.back ≡ replicate count [] → (c a : ℕ) → is_near t.back c a ≡ true → ⊥
    no_near t back c a h = unlisted c a (ap (λ lists. is_near lists c a) (sym back) ∙ h)

    -- the lists begin anew
    pub spread-unlisted : (missing : Rights) (pending : List ℕ) (s t : Spread) → IsSpread es asked missing pending s → t.flood ≡ s.flood → t.followed ≡ s.followed → t.back ≡ replicate count [] → IsSpread es asked missing pending t
    spread-unlisted missing pending s t is flood followed back = record {
      len = ap (λ f. length f.numbers.items) flood ∙ is.len;
      count = omega (arith, is.count, ap work_left flood, followed);
      back_from = λ a b h. absurd (no_near t back b a h);
      inside = λ a u p h. is.inside a u p (before a h);
      start = λ a p. now a (is.start a p);
      pends = λ a h. now a (is.pends a h);
      none = λ a h. is.none a (before a h);
      ahead = λ a place b h e. elim (is.ahead a place b (before a h) e) [ inl w ↦ inl w | inr n ↦ inr (now b n) ];
      behind = λ a b h near. absurd (no_near t back b a near);
    }
      where
        now : (a : ℕ) → IsMet s a → IsMet t a
        now a h = ap (λ f. is_some (number_at f a)) flood ∙ h

        before : (a : ℕ) → IsMet t a → IsMet s a
        before a h = ap (λ f. is_some (number_at f a)) (sym flood) ∙ h

  -- ---- the end
  pub spread-ends : WellFormed g → (missing : Rights) (i : ℕ) (s : Spread) → length (keys_of es) ≤ i → IsTrue (has_vertex g asked.x) → IsAtRest es asked missing i s → (right : Right) → IsTrue (member missing right) → HeldInIsland g right asked.x asked.y → ⊥
  spread-ends well missing i s past known rest right m held = finish (rest.is_spread.none at.0 (sym (named at.0 held.0 at.1) ∙ flood_has_island g is_met asked.x held.0 on (named start.0 asked.x start.1 ∙ rest.is_spread.start start.0 start.1) held.2))
    where
      is_met : Name → Bool
      is_met v = is_some (option_and_then (λ a. number_at s.flood a) (position (bytes_eq v) (keys_of es)))

      named : (a : ℕ) (v : Name) → slice_get (keys_of es) a ≡ Some v → is_met v ≡ is_some (number_at s.flood a)
      named a v p = ap (λ o. is_some (option_and_then (λ b. number_at s.flood b) o)) (position-at (keys_of es) ok.apart a v p)

      at : (a : ℕ) × (slice_get (keys_of es) a ≡ Some held.0)
      at = place_of (keys_of es) held.0 (well.ends held.0 right asked.y held.1).0

      start : (a : ℕ) × (slice_get (keys_of es) a ≡ Some asked.x)
      start = place_of (keys_of es) asked.x known

      along : (a b : ℕ) → IsMet s a → b < length (keys_of es) → Edge a b → IsMet s b
      along a b met lt (place, inl e) = elim (rest.is_spread.ahead a place b met e) [ inl w ↦ none_of a w | inr m ↦ m ]
      along a b met lt (place, inr e) = elim (rest.read b place a (omega (arith, lt, past)) e) [ inl m ↦ m | inr near ↦ elim (rest.is_spread.behind b a met near) [ inl w ↦ none_of a w | inr m ↦ m ] ]

      on : (u v : Name) → IsTrue (is_met u) → IsTrue (has_vertex g v) → IsTrue (linked g u v) → IsTrue (is_met v)
      on u v met there link =
          let a = place_of (keys_of es) u (linked_ends g well u v link).0 in
          let b = place_of (keys_of es) v there in
          named b.0 v b.1 ∙ along a.0 b.0 (sym (named a.0 u a.1) ∙ met) (slice_get_within (keys_of es) b.0 v b.1) (linked-edge es ok a.0 b.0 u v a.1 b.1 link)

      finish : IsOneOf at.0 [] ⊎ HoldsNone g missing asked.y at.0 → ⊥
      finish (inl w) = none_of at.0 w
      finish (inr n) = n right m (record { name = held.0; place = at.1; holds = held.1 })

  -- ---- what is missing
  pub all_held : (missing : Rights) → IsTrue (is_empty_set missing) → IsMissing es asked missing → (right : Right) → IsTrue (member asked.rights right) → HeldInIsland g right asked.x asked.y
  all_held missing e is right m = elim (is.found right m) [ inl h ↦ absurd (none_among missing e right h) | inr held ↦ held ]

  pub then_none_missing : (missing : Rights) → IsMissing es asked missing → ((right : Right) → IsTrue (member missing right) → HeldInIsland g right asked.x asked.y → ⊥) → ((right : Right) → IsTrue (member asked.rights right) → HeldInIsland g right asked.x asked.y) → IsTrue (is_empty_set missing)
  then_none_missing missing is lacking held = ap is_empty_set (same_set missing nothing none is.named (lit< tt))
    where
      none : (right : Right) → member missing right ≡ member nothing right
      none right = elim (cases_Bool (member missing right)) [ inl m ↦ absurd (lacking right m (held right (is.among right m))) | inr e ↦ e ∙ sym (member-nothing right) ]
