-- Breadth-first searches: what was met, and what a search that ends without a holder says.
use Rattle.std.proofs.Common.{◌≡◌, ℕ, zero, suc, ◌+◌, ◌<◌, ◌≤◌, Bool, true, false, ◌||◌, ◌⊎◌, inl, inr, if◌then◌else◌, List, [], ◌∷◌, ◌++◌, length, Option, Some, None, get_or, slice_get, is_some, refl, sym, ap, ◌∙◌, subst, IsTrue, arith, bytes_eq}
use Rattle.std.proofs.lemmas.Bool.{true≢false, both_ways, cases_lt, or_cases, or_left, or_right}
use Rattle.std.proofs.lemmas.List.Folds.{list_any-append}
use Rattle.std.proofs.lemmas.Option.{slice_get_within, slice_get-get_or}
use Rattle.std.specs.List.{list_any, IsDistinct, AllByRecursion}
use Rattle.std.specs.Map.{keys_of, lookup}
use Rattle.std.proofs.lemmas.Map.Made.{is_some-lookup}
use Rattle.tg_names.specs.declared.right_sets.Right.{Right}
use Rattle.tg_names.specs.Names.{Name, same_name}
use Rattle.tg_graph.specs.Graphs.{ProtectionGraph, has_vertex, WellFormed}
use Rattle.tg_rows.proofs.Rows.{same_bytes}
use Rattle.tg_islands.specs.Sharing.{linked, HeldInIsland}
use Rattle.tg_sharing.specs.declared.chains.Search.{Search}
use Rattle.tg_islands.specs.Linked.{AreLinks}
use Rattle.tg_sharing.specs.Searches.{Visits, is_among, with_met, IsMetBy, IsSearch, HasGoneRound, HasNoHolder, IsSearched, IsMetUpTo, IsInOrder, Grows, GoesRound, IsSearching, SearchesOn}
use Rattle.tg_islands.proofs.NameTests.{same_refl}
use Rattle.tg_islands.proofs.Places.{place_of, place-known}
use Rattle.tg_islands.proofs.Counts.{Distinct, distinct_le}
use Rattle.tg_islands.proofs.Floods.{flood_has_island}
use Rattle.tg_sharing.proofs.Underway.{linked_ends}

-- ---- places in a list
pub push-old : {X : Type 0} (xs : List X) (x : X) (k : ℕ) (e : X) → slice_get xs k ≡ Some e → slice_get (xs ++ x ∷ []) k ≡ Some e
push-old [] x k e h = absurd (cc)
push-old (y ∷ ys) x zero e h = h
push-old (y ∷ ys) x (suc k) e h = push-old ys x k e h

pub push-cases : {X : Type 0} (xs : List X) (x : X) (k : ℕ) (e : X) → slice_get (xs ++ x ∷ []) k ≡ Some e → (slice_get xs k ≡ Some e) ⊎ ((k ≡ length xs) × (x ≡ e))
push-cases [] x zero e h = inr (refl, cc)
push-cases [] x (suc k) e h = absurd (cc)
push-cases (y ∷ ys) x zero e h = inl h
push-cases (y ∷ ys) x (suc k) e h = elim (push-cases ys x k e h) [ inl p ↦ inl p | inr p ↦ inr (ap suc p.0, p.1) ]

pub key-visit : (met : Visits) (k : ℕ) (v : Name) → slice_get (keys_of met) k ≡ Some v → (from : ℕ) × (slice_get met k ≡ Some (v, from))
key-visit [] k v h = absurd (cc)
key-visit (e ∷ es) zero v h = let same : e.0 ≡ v = cc in (e.1, ap (λ n. Some (n, e.1)) same)
key-visit (e ∷ es) (suc k) v h = key-visit es k v h

pub visit-key : (met : Visits) (k : ℕ) (visit : Name × ℕ) → slice_get met k ≡ Some visit → slice_get (keys_of met) k ≡ Some visit.0
visit-key [] k v h = absurd (cc)
visit-key (e ∷ es) zero v h = let same : e ≡ v = cc in ap (λ (t : Name × ℕ). Some t.0) same
visit-key (e ∷ es) (suc k) v h = visit-key es k v h

pub none_unless : {X : Type 0} (o : Option X) → ((x : X) → o ≡ Some x → ⊥) → o ≡ None
none_unless None h = refl
none_unless (Some x) h = absurd (h x refl)

-- ---- one more vertex
keys-push : (met : Visits) (v : Name) (from : ℕ) → keys_of (met ++ (v, from) ∷ []) ≡ keys_of met ++ v ∷ []
keys-push [] v from = refl
keys-push (e ∷ es) v from = ap (λ ks. e.0 ∷ ks) (keys-push es v from)

any-push : (t : Name → Bool) (met : Visits) (v : Name) (from : ℕ) → list_any t (keys_of (met ++ (v, from) ∷ [])) ≡ true → (list_any t (keys_of met) ≡ true) ⊎ (t v ≡ true)
any-push t met v from h = go (or_cases (list_any t (keys_of met)) (list_any t (v ∷ [])) (sym (ap (list_any t) (keys-push met v from) ∙ list_any-append t (keys_of met) (v ∷ [])) ∙ h))
  where
    go : (list_any t (keys_of met) ≡ true) ⊎ (list_any t (v ∷ []) ≡ true) → (list_any t (keys_of met) ≡ true) ⊎ (t v ≡ true)
    go (inl e) = inl e
    go (inr e) = elim (or_cases (t v) false e) [ inl f ↦ inr f | inr f ↦ absurd (true≢false (sym f)) ]

pub grows-refl : (met : Visits) → Grows met met
grows-refl met = record { places = λ k visit h. h; keys = λ v h. h }

pub grows-then : (a b c : Visits) → Grows a b → Grows b c → Grows a c
grows-then a b c g h = record { places = λ k visit e. h.places k visit (g.places k visit e); keys = λ v e. h.keys v (g.keys v e) }

grows-push : (met : Visits) (v : Name) (from : ℕ) → Grows met (met ++ (v, from) ∷ [])
grows-push met v from = record {
  places = λ k visit h. push-old met (v, from) k visit h;
  keys = λ w h. ap (list_any (same_name w)) (keys-push met v from) ∙ list_any-append (same_name w) (keys_of met) (v ∷ []) ∙ or_left (list_any (same_name w) (keys_of met)) _ h;
}

met-push : (met : Visits) (v : Name) (from : ℕ) → is_among v (keys_of (met ++ (v, from) ∷ []))
met-push met v from = ap (list_any (same_name v)) (keys-push met v from) ∙ list_any-append (same_name v) (keys_of met) (v ∷ []) ∙ or_right (list_any (same_name v) (keys_of met)) _ (or_left (same_name v v) false (same_refl v))

abbrev added : Bool → Visits → Name → ℕ → Visits
added b met v from = if b then met else met ++ (v, from) ∷ []

pub grows-met : (met : Visits) (v : Name) (from : ℕ) → Grows met (with_met met v from)
grows-met met v from = go (list_any (same_name v) (keys_of met))
  where
    go : (b : Bool) → Grows met (added b met v from)
    go true = grows-refl met
    go false = grows-push met v from

pub is-met : (met : Visits) (v : Name) (from : ℕ) → is_among v (keys_of (with_met met v from))
is-met met v from = go (list_any (same_name v) (keys_of met)) refl
  where
    go : (b : Bool) → list_any (same_name v) (keys_of met) ≡ b → is_among v (keys_of (added b met v from))
    go true e = e
    go false e = met-push met v from

abbrev SameVisit : Name × ℕ → Name × ℕ → Type 0
SameVisit a b = a ≡ b

module _ (g : ProtectionGraph) (well : WellFormed g) where
  met-by : (met : Visits) (v : Name) (from : ℕ) (w : Name) (place start : ℕ) → IsMetBy g met place w start → IsMetBy g (met ++ (v, from) ∷ []) place w start
  met-by met v from w place start m = record { earlier = m.earlier; before = m.before; there = push-old met (v, from) start m.before m.there; joined = m.joined }

  search-push : (met : Visits) (u v : Name) (from : ℕ) → IsSearch g met → slice_get (keys_of met) from ≡ Some u → IsTrue (linked g u v) → IsSearch g (met ++ (v, from) ∷ [])
  search-push met u v from s here link = record {
    known = λ w h. elim (any-push (same_name w) met v from h) [ inl e ↦ s.known w e | inr e ↦ subst (λ t. IsTrue (has_vertex g t)) (sym (same_bytes w v e)) (linked_ends g well u v link).1 ];
    trail = λ place w start positive h. go place w start positive (push-cases met (v, from) place (w, start) h);
  }
    where
      go : (place : ℕ) (w : Name) (start : ℕ) → 0 < place → (slice_get met place ≡ Some (w, start)) ⊎ ((place ≡ length met) × SameVisit (v, from) (w, start)) → IsMetBy g (met ++ (v, from) ∷ []) place w start
      go place w start positive (inl h) = met-by met v from w place start (s.trail place w start positive h)
      go place w start positive (inr h) =
          let visit = key-visit met from u here in
          let lt : from < length met = slice_get_within met from (u, visit.0) visit.1 in
          let same_v : v ≡ w = ap (λ (t : Name × ℕ). t.0) h.1 in
          let same_from : from ≡ start = ap (λ (t : Name × ℕ). t.1) h.1 in
          record {
            earlier = omega arith;
            before = (u, visit.0);
            there = push-old met (v, from) start (u, visit.0) (subst (λ n. slice_get met n ≡ Some (u, visit.0)) same_from visit.1);
            joined = subst (λ t. IsTrue (linked g u t)) same_v link;
          }

  pub search-met : (met : Visits) (u v : Name) (from : ℕ) → IsSearch g met → slice_get (keys_of met) from ≡ Some u → IsTrue (linked g u v) → IsSearch g (with_met met v from)
  search-met met u v from s here link = go (list_any (same_name v) (keys_of met))
    where
      go : (b : Bool) → IsSearch g (added b met v from)
      go true = s
      go false = search-push met u v from s here link

-- ---- in order
pub order-later : (met : Visits) (m n : ℕ) → m ≤ n → IsInOrder met m → IsInOrder met n
order-later met m n le o = record { rising = o.rising; so_far = λ k v from h. omega (arith, le, o.so_far k v from h) }

order-push : (met : Visits) (t : Name) (place : ℕ) → IsInOrder met place → IsInOrder (met ++ (t, place) ∷ []) place
order-push met t place o = record {
  rising = λ j k v w a b le p q. rising j k v w a b le (push-cases met (t, place) j (v, a) p) (push-cases met (t, place) k (w, b) q);
  so_far = λ k v from h. so_far k v from (push-cases met (t, place) k (v, from) h);
}
  where
    so_far : (k : ℕ) (v : Name) (from : ℕ) → (slice_get met k ≡ Some (v, from)) ⊎ ((k ≡ length met) × SameVisit (t, place) (v, from)) → from ≤ place
    so_far k v from (inl h) = o.so_far k v from h
    so_far k v from (inr h) = omega (arith, ap (λ (t : Name × ℕ). t.1) h.1)

    rising : (j k : ℕ) (v w : Name) (a b : ℕ) → j ≤ k → (slice_get met j ≡ Some (v, a)) ⊎ ((j ≡ length met) × SameVisit (t, place) (v, a)) → (slice_get met k ≡ Some (w, b)) ⊎ ((k ≡ length met) × SameVisit (t, place) (w, b)) → a ≤ b
    rising j k v w a b le (inl p) (inl q) = o.rising j k v w a b le p q
    rising j k v w a b le p (inr q) = omega (arith, so_far j v a p, ap (λ (t : Name × ℕ). t.1) q.1)
    rising j k v w a b le (inr p) (inl q) = absurd (omega (arith, le, p.0, slice_get_within met k (w, b) q))

pub order-met : (met : Visits) (v : Name) (place : ℕ) → IsInOrder met place → IsInOrder (with_met met v place) place
order-met met v place o = go (list_any (same_name v) (keys_of met))
  where
    go : (b : Bool) → IsInOrder (added b met v place) place
    go true = o
    go false = order-push met v place o

-- ---- one more place
module _ (g : ProtectionGraph) where
  -- what was met up to the place is one of those before, or stands there
  both_parts : {P : ℕ → Name → Type 0} (old new : Visits) (place : ℕ) (visit : Name × ℕ) → slice_get old place ≡ Some visit → Grows old new → (k : ℕ) (v : Name) (from : ℕ) → k < place + 1 → slice_get new k ≡ Some (v, from) → ((k' : ℕ) (v' : Name) (from' : ℕ) → k' < place → slice_get old k' ≡ Some (v', from') → P k' v') → ((v' : Name) → visit.0 ≡ v' → P place v') → P k v
  both_parts {P} old new place visit here grows k v from h e before at = go (cases_lt k place)
    where
      go : (k < place) ⊎ (place ≤ k) → P k v
      go (inl lt) =
          let within : k < length old = omega (arith, slice_get_within old place visit here) in
          let old_visit = get_or old k visit in
          let was : slice_get old k ≡ Some old_visit = slice_get-get_or old k visit within in
          let now : slice_get new k ≡ Some old_visit = grows.places k old_visit was in
          let same : old_visit ≡ (v, from) = cc in
          before k v from lt (was ∙ ap Some same)
      go (inr le) =
          let is : k ≡ place = omega arith in
          let now : slice_get new place ≡ Some visit = grows.places place visit here in
          let there : slice_get new place ≡ Some (v, from) = subst (λ n. slice_get new n ≡ Some (v, from)) is e in
          let same : visit ≡ (v, from) = cc in
          subst (λ n. P n v) (sym is) (at v (ap (λ (t : Name × ℕ). t.0) same))

  pub round-next : (old new : Visits) (place : ℕ) (visit : Name × ℕ) → HasGoneRound g old place → slice_get old place ≡ Some visit → GoesRound g place visit.0 old new → HasGoneRound g new (place + 1)
  round-next old new place visit before here r =
      λ k v from w h e l. both_parts {P = λ n t. IsTrue (linked g t w) → IsMetUpTo new n w} old new place visit here r.grows k v from h e (λ k' v' from' lt p. λ l'. still k' w (before k' v' from' w lt p l')) (λ v' same. λ l'. by_now w (r.round w (subst (λ t. IsTrue (linked g t w)) (sym same) l'))) l
    where
      still : (n : ℕ) (w : Name) → IsMetUpTo old n w → IsMetUpTo new n w
      still n w m = (m.0, m.1, m.2, r.grows.places m.0 (w, m.1) m.3)

      by_now : (w : Name) → is_among w (keys_of new) → IsMetUpTo new place w
      by_now w among =
          let at = place_of (keys_of new) w among in
          let visit = key-visit new at.0 w at.1 in
          (at.0, visit.0, r.order.so_far at.0 w visit.0 visit.1, visit.1)

module _ (g : ProtectionGraph) (right : Right) (y : Name) where
  pub holder-none : (met : Visits) → HasNoHolder g right y met 0
  holder-none met = λ k v from h e. absurd (omega arith)

  pub holder-next : (old new : Visits) (place : ℕ) (visit : Name × ℕ) → HasNoHolder g right y old place → slice_get old place ≡ Some visit → g.holds visit.0 right y ≡ false → Grows old new → HasNoHolder g right y new (place + 1)
  holder-next old new place visit before here none grows =
      λ k v from h e. both_parts g {P = λ _ t. g.holds t right y ≡ false} old new place visit here grows k v from h e (λ k' v' from' lt p. before k' v' from' lt p) (λ v' same. subst (λ t. g.holds t right y ≡ false) same none)

  -- up to a place that the search has gone beyond
  pub searched-to : (met : Visits) (place rounds : ℕ) → HasNoHolder g right y met place → place ≤ rounds → HasGoneRound g met rounds → IsSearched g right y met place
  searched-to met place rounds none le round = record { none = none; round = λ k v from w h e l. round k v from w (omega (arith, h, le)) e l }

  -- a search that has gone round all that it met has met the whole island
  pub searched-whole : (x : Name) (met : Visits) (place : ℕ) → IsSearched g right y met place → slice_get met place ≡ None → slice_get (keys_of met) 0 ≡ Some x → HeldInIsland g right x y → ⊥
  searched-whole x met place s end first held =
      let at = place_of (keys_of met) held.0 (flood_has_island g (λ v. list_any (same_name v) (keys_of met)) x held.0 on (place-known (keys_of met) 0 x first) held.2) in
      let visit = key-visit met at.0 held.0 at.1 in
      both_ways (g.holds held.0 right y) (s.none at.0 held.0 visit.0 (below at.0 (held.0, visit.0) visit.1) visit.1) held.1
    where
      below : (k : ℕ) (visit : Name × ℕ) → slice_get met k ≡ Some visit → k < place
      below k visit h = go (cases_lt k place)
        where
          past : (length met ≤ place) ⊎ (place < length met) → length met ≤ place
          past (inl h) = h
          past (inr h) = let there = slice_get-get_or met place visit h in absurd (cc)

          go : (k < place) ⊎ (place ≤ k) → k < place
          go (inl h) = h
          go (inr le) = absurd (omega (arith, slice_get_within met k visit h, past (elim (cases_lt place (length met)) [ inl p ↦ inr p | inr p ↦ inl p ])))

      on : (a b : Name) → IsTrue (list_any (same_name a) (keys_of met)) → IsTrue (has_vertex g b) → IsTrue (linked g a b) → IsTrue (list_any (same_name b) (keys_of met))
      on a b among there link =
          let at = place_of (keys_of met) a among in
          let visit = key-visit met at.0 a at.1 in
          let met_by = s.round at.0 a visit.0 b (below at.0 (a, visit.0) visit.1) visit.1 link in
          place-known (keys_of met) met_by.0 b (visit-key met met_by.0 (b, met_by.1) met_by.3)

-- ---- a search that goes on
pub start-known : (g : ProtectionGraph) (search : Search) → IsSearching g search → IsTrue (has_vertex g search.start)
start-known g search is = is.is_search.known search.start (place-known (keys_of search.met) 0 search.start is.first)

pub searches-same : (g : ProtectionGraph) (search : Search) → IsSearching g search → SearchesOn g search search
searches-same g search is = record { searching = is; start = refl; grows = grows-refl search.met }

pub searches-then : (g : ProtectionGraph) (a b c : Search) → SearchesOn g a b → SearchesOn g b c → SearchesOn g a c
searches-then g a b c one other = record { searching = other.searching; start = other.start ∙ one.start; grows = grows-then a.met b.met c.met one.grows other.grows }

-- the search has gone round the next vertex
pub searches-round : (g : ProtectionGraph) (old new : Search) (place : ℕ) (vertex : Name) → IsSearching g old → slice_get (keys_of old.met) place ≡ Some vertex → place ≡ old.rounds → GoesRound g place vertex old.met new.met → new.links ≡ old.links → new.start ≡ old.start → new.rounds ≡ place + 1 → SearchesOn g old new
searches-round g old new place vertex is here turn r links start rounds = record {
  searching = record {
    links = subst (λ ls. AreLinks g ls) (sym links) is.links;
    is_search = r.search;
    first = visit-key new.met 0 (old.start, began.0) (r.grows.places 0 (old.start, began.0) began.1) ∙ ap Some (sym start);
    order = subst (λ n. IsInOrder new.met n) (sym rounds) (order-later new.met place (place + 1) (omega arith) r.order);
    round = subst (λ n. HasGoneRound g new.met n) (sym rounds) (round-next g old.met new.met place (vertex, visit.0) (subst (λ n. HasGoneRound g old.met n) (sym turn) is.round) visit.1 r);
  };
  start = start;
  grows = r.grows;
}
  where
    began : (from : ℕ) × (slice_get old.met 0 ≡ Some (old.start, from))
    began = key-visit old.met 0 old.start is.first

    visit : (from : ℕ) × (slice_get old.met place ≡ Some (vertex, from))
    visit = key-visit old.met place vertex here

-- ---- a search meets no more vertices than there are
distinct : (vs : List Name) → IsDistinct bytes_eq vs → Distinct same_name same_bytes vs
unfolding IsDistinct
distinct [] d = tt
distinct (v ∷ vs) d = (none v vs d.0, distinct vs d.1)
  where
    none : (v : Name) (ws : List Name) → AllByRecursion (λ w. bytes_eq v w ≡ false) ws → list_any (same_name v) ws ≡ false
    none v [] h = refl
    none v (w ∷ ws) h = (λ i. h.0 i || list_any (same_name v) ws) ∙ none v ws h.1

pub few-met : (g : ProtectionGraph) (met : Visits) → IsSearch g met → IsDistinct bytes_eq (keys_of met) → (place : ℕ) (visit : Name × ℕ) → slice_get met place ≡ Some visit → place < length g.vertices
few-met g met s apart place visit here =
    let few : length (keys_of met) ≤ length g.vertices = distinct_le same_name same_bytes same_refl (keys_of met) g.vertices (distinct (keys_of met) apart) s.known in
    omega (arith, few, slice_get_within (keys_of met) place visit.0 (visit-key met place visit here))

pub none-met : (met : Visits) (v : Name) → list_any (bytes_eq v) (keys_of met) ≡ false → lookup (bytes_eq v) met ≡ None
none-met met v e = by (lookup (bytes_eq v) met) (is_some-lookup (bytes_eq v) met ∙ e)
  where
    by : (o : Option ℕ) → is_some o ≡ false → o ≡ None
    by None e = refl
    by (Some n) e = absurd (true≢false e)
