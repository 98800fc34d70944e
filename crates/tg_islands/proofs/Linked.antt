-- What the links of the edges so far say of the graph.
use Rattle.std.proofs.Common.{◌≡◌, ℕ, ◌<◌, ◌≤◌, ◌+◌, Bool, true, false, cond, [], Some, None, refl, sym, ap, subst, ◌∙◌, bytes_eq, nat_eq, length, slice_get, arith, true≢false, inl, inr, ◌⊎◌, ◌||◌, ◌&&◌}
use Rattle.std.specs.List.{position}
use Rattle.std.specs.Map.{keys_of}
use Rattle.std.specs.Option.{option_map_or, option_and_then}
use Rattle.std.proofs.lemmas.Bool.{cases_lt, eqb-true, eq-eqb}
use Rattle.std.proofs.lemmas.Option.{option_and_then_some, slice_get_within, slice_get_past}
use Rattle.std.proofs.lemmas.List.Quantifiers.{position-Some}
use Rattle.std.proofs.lemmas.Map.Entries.{length-keys_of}
use Rattle.tg_names.specs.declared.right_sets.Right.{Right}
use Rattle.tg_names.specs.declared.right_sets.Right.TheVariants.{T, G}
use Rattle.tg_names.specs.declared.right_sets.Rights.{Rights}
use Rattle.tg_names.specs.Sets.{member}
use Rattle.tg_names.specs.Names.{Name}
use Rattle.tg_graph.specs.GraphOf.{graph_of}
use Rattle.tg_rows.specs.Rows.{Edges, Entries, IsGraph, row_number}
use Rattle.tg_islands.specs.Sharing.{linked}
use Rattle.tg_islands.specs.Linked.{NeighbourLists, is_near, AreLinks, JoinsNeighbours, linked_end, IsBefore, LinksUpTo}
use Rattle.tg_islands.proofs.OneIsland.{linked_sym}
use Rattle.tg_graph.proofs.Positions.{at-position}
use Rattle.tg_islands.proofs.Places.{position-at, holds-place, place-holds}

-- ---- one more edge
module _ (es : Entries) (i here : ℕ) where
  pub before : (a place : ℕ) → IsBefore a place i (here + 1) → IsBefore a place i here ⊎ ((a ≡ i) × (place ≡ here))
  before a place (inl h) = inl (inl h)
  before a place (inr h) = by (cases_lt place here)
    where
      by : (place < here) ⊎ (here ≤ place) → IsBefore a place i here ⊎ ((a ≡ i) × (place ≡ here))
      by (inl l) = inl (inr (h.0, l))
      by (inr l) = inr (h.0, omega arith)

  pub links-skip : (links : NeighbourLists) → LinksUpTo es links i here → linked_end es i here ≡ None → LinksUpTo es links i (here + 1)
  links-skip links s none = record { len = s.len; from = s.from; there = λ a place b h e. by a place b e (before a place h) }
    where
      by : (a place b : ℕ) → linked_end es a place ≡ Some b → IsBefore a place i here ⊎ ((a ≡ i) × (place ≡ here)) → (is_near links a b ≡ true) × (is_near links b a ≡ true)
      by a place b e (inl h) = s.there a place b h e
      by a place b e (inr h) = let q : linked_end es a place ≡ linked_end es i here = (λ k. linked_end es (h.0 k) (h.1 k)) in cc

  module _ (old new : NeighbourLists) (j : ℕ) (s : LinksUpTo es old i here) (e : linked_end es i here ≡ Some j) (joins : JoinsNeighbours old new i j) where
    or_left : (a b c : Bool) → a ≡ true → ((a || b) || c) ≡ true
    or_left a b c h = ap (λ t. (t || b) || c) h

    grows : (a b : ℕ) → is_near old a b ≡ true → is_near new a b ≡ true
    grows a b h = joins.near a b ∙ or_left (is_near old a b) (nat_eq a i && nat_eq b j) (nat_eq a j && nat_eq b i) h

    split : (a b c : Bool) → ((a || b) || c) ≡ true → (a ≡ true) ⊎ ((b ≡ true) ⊎ (c ≡ true))
    split true b c h = inl refl
    split false true c h = inr (inl refl)
    split false false c h = inr (inr h)

    both : (a b c d : ℕ) → (nat_eq a b && nat_eq c d) ≡ true → (a ≡ b) × (c ≡ d)
    both a b c d h = by (nat_eq a b) (nat_eq c d) refl refl h
      where
        by : (p q : Bool) → nat_eq a b ≡ p → nat_eq c d ≡ q → (p && q) ≡ true → (a ≡ b) × (c ≡ d)
        by true true x y h = (eqb-true a b x, eqb-true c d y)
        by true false x y h = absurd (true≢false (sym h))
        by false q x y h = absurd (true≢false (sym h))

    from : (a b : ℕ) → is_near new a b ≡ true → (place : ℕ) × ((linked_end es a place ≡ Some b) ⊎ (linked_end es b place ≡ Some a))
    from a b h = by (split (is_near old a b) (nat_eq a i && nat_eq b j) (nat_eq a j && nat_eq b i) (sym (joins.near a b) ∙ h))
      where
        by : (is_near old a b ≡ true) ⊎ (((nat_eq a i && nat_eq b j) ≡ true) ⊎ ((nat_eq a j && nat_eq b i) ≡ true)) → (place : ℕ) × ((linked_end es a place ≡ Some b) ⊎ (linked_end es b place ≡ Some a))
        by (inl p) = s.from a b p
        by (inr (inl p)) = let q = both a i b j p in (here, inl (ap (λ n. linked_end es n here) q.0 ∙ e ∙ ap Some (sym q.1)))
        by (inr (inr p)) = let q = both a j b i p in (here, inr (ap (λ n. linked_end es n here) q.1 ∙ e ∙ ap Some (sym q.0)))

    same : (n : ℕ) → nat_eq n n ≡ true
    same n = eq-eqb n n refl

    new_there : (is_near new i j ≡ true) × (is_near new j i ≡ true)
    new_there =
        (joins.near i j ∙ (λ k. (is_near old i j || (same i k && same j k)) || (nat_eq i j && nat_eq j i)) ∙ second (is_near old i j) (nat_eq i j && nat_eq j i), joins.near j i ∙ (λ k. (is_near old j i || (nat_eq j i && nat_eq i j)) || (same j k && same i k)) ∙ third (is_near old j i) (nat_eq j i && nat_eq i j))
      where
        second : (a c : Bool) → ((a || true) || c) ≡ true
        second true c = refl
        second false c = refl

        third : (a b : Bool) → ((a || b) || true) ≡ true
        third true b = refl
        third false true = refl
        third false false = refl

    pub links-joined : LinksUpTo es new i (here + 1)
    links-joined = record { len = joins.len ∙ s.len; from = from; there = λ a place b h q. by a place b q (before a place h) }
      where
        by : (a place b : ℕ) → linked_end es a place ≡ Some b → IsBefore a place i here ⊎ ((a ≡ i) × (place ≡ here)) → (is_near new a b ≡ true) × (is_near new b a ≡ true)
        by a place b q (inl h) = let t = s.there a place b h q in (grows a b t.0, grows b a t.1)
        by a place b q (inr h) =
            let p : linked_end es a place ≡ linked_end es i here = (λ k. linked_end es (h.0 k) (h.1 k)) in
            let is : j ≡ b = cc in
            let P : ℕ → ℕ → Type 0 = λ x y. (is_near new x y ≡ true) × (is_near new y x ≡ true) in
            subst (λ x. P x b) (sym h.0) (subst (P i) is new_there)

-- ---- an end that an edge has
pub record HasEnd (es : Entries) (a place b : ℕ) : Type 0 where
  pub name : Name
  pub label : Rights
  pub read : slice_get (row_number es a) place ≡ Some (name, label)
  pub ties : (member label T || member label G) ≡ true
  pub known : position (bytes_eq name) (keys_of es) ≡ Some b

has_end : (es : Entries) (a place b : ℕ) → linked_end es a place ≡ Some b → HasEnd es a place b
has_end es a place b e = option_and_then_some (λ (edge : Name × Rights). cond (member edge.1 T || member edge.1 G) (position (bytes_eq edge.0) (keys_of es)) None) (slice_get (row_number es a) place) b e by
  where
    by : (edge : Name × Rights) → slice_get (row_number es a) place ≡ Some edge → cond (member edge.1 T || member edge.1 G) (position (bytes_eq edge.0) (keys_of es)) None ≡ Some b → HasEnd es a place b
    by (name, label) p q = cases (member label T || member label G) refl q
      where
        cases : (t : Bool) → (member label T || member label G) ≡ t → cond t (position (bytes_eq name) (keys_of es)) None ≡ Some b → HasEnd es a place b
        cases true t q = record { name = name; label = label; read = p; ties = t; known = q }
        cases false t q = cc

end_of : (es : Entries) (a place b : ℕ) → HasEnd es a place b → linked_end es a place ≡ Some b
end_of es a place b h =
    ap (option_and_then (λ (edge : Name × Rights). cond (member edge.1 T || member edge.1 G) (position (bytes_eq edge.0) (keys_of es)) None)) h.read
    ∙ ap (λ t. cond t (position (bytes_eq h.name) (keys_of es)) None) h.ties
    ∙ h.known

-- there is no row past the last
pub row_past : (es : Entries) (a : ℕ) → length es ≤ a → row_number es a ≡ []
row_past es a past = ap (λ o. option_map_or (λ (edge : Name × Edges). edge.1) o []) (slice_get_past es a past)

-- a place with a linking edge is one of the row
pub place_within : (es : Entries) (a place b : ℕ) → linked_end es a place ≡ Some b → place < length (row_number es a)
place_within es a place b e = let h = has_end es a place b e in slice_get_within (row_number es a) place (h.name, h.label) h.read

-- ---- the next row
module _ (es : Entries) (i : ℕ) where
  within : (a place b : ℕ) → linked_end es a place ≡ Some b → a ≡ i → place < length (row_number es i)
  within a place b e q = subst (λ n. place < length (row_number es n)) q (place_within es a place b e)

  pub row-before : (a place b : ℕ) → linked_end es a place ≡ Some b → IsBefore a place (i + 1) 0 → IsBefore a place i (length (row_number es i))
  row-before a place b e (inl h) = cases (cases_lt a i)
    where
      cases : (a < i) ⊎ (i ≤ a) → IsBefore a place i (length (row_number es i))
      cases (inl l) = inl l
      cases (inr l) = let q : a ≡ i = omega arith in inr (q, within a place b e q)
  row-before a place b e (inr h) = absurd (omega arith)

  pub links-row : (links : NeighbourLists) → LinksUpTo es links i (length (row_number es i)) → LinksUpTo es links (i + 1) 0
  links-row links s = record { len = s.len; from = s.from; there = λ a place b h e. s.there a place b (row-before a place b e h) e }

-- ---- all rows
module _ (es : Entries) (ok : IsGraph es) where
  tie-end : (a place b : ℕ) (u v : Name) → slice_get (keys_of es) a ≡ Some u → slice_get (keys_of es) b ≡ Some v → linked_end es a place ≡ Some b → ((graph_of es).holds u T v || (graph_of es).holds u G v) ≡ true
  tie-end a place b u v p q e =
      let h = has_end es a place b e in
      let is : h.name ≡ v = (let r = at-position (keys_of es) h.name b h.known in cc) in
      let read : slice_get (row_number es a) place ≡ Some (v, h.label) = h.read ∙ ap (λ n. Some (n, h.label)) is in
      (λ k. holds-place es ok a u p place v h.label T read k || holds-place es ok a u p place v h.label G read k) ∙ h.ties

  end-tie : (a b : ℕ) (u v : Name) (right : Right) → slice_get (keys_of es) a ≡ Some u → slice_get (keys_of es) b ≡ Some v → ((label : Rights) → member label right ≡ true → (member label T || member label G) ≡ true) → (graph_of es).holds u right v ≡ true → (place : ℕ) × (linked_end es a place ≡ Some b)
  end-tie a b u v right p q tie h =
      let f = place-holds es ok a u p right v h in
      (f.0, end_of es a f.0 b (record { name = v; label = f.1; read = f.2; ties = tie f.1 f.3; known = position-at (keys_of es) ok.apart b v q }))

  take_ties : (label : Rights) → member label T ≡ true → (member label T || member label G) ≡ true
  take_ties label h = ap (λ t. t || member label G) h

  grant_ties : (label : Rights) → member label G ≡ true → (member label T || member label G) ≡ true
  grant_ties label h = by (member label T) (member label G) h
    where
      by : (a b : Bool) → b ≡ true → (a || b) ≡ true
      by true b h = refl
      by false b h = h

  pub row_there : (a place b : ℕ) → linked_end es a place ≡ Some b → a < length (keys_of es)
  row_there a place b e = let h = has_end es a place b e in by (cases_lt a (length (keys_of es))) h.read
    where
      by : (a < length (keys_of es)) ⊎ (length (keys_of es) ≤ a) → slice_get (row_number es a) place ≡ Some ((has_end es a place b e).name, (has_end es a place b e).label) → a < length (keys_of es)
      by (inl l) r = l
      by (inr l) r = let none = row_past es a (omega (arith, length-keys_of es)) in let past = ap (λ row. slice_get row place) none in cc

  pub end_within : (a place b : ℕ) → linked_end es a place ≡ Some b → b < length (keys_of es)
  end_within a place b e = let h = has_end es a place b e in (position-Some (bytes_eq h.name) (keys_of es) b h.name h.known).0

  -- each position is before the end
  pub whole_before : (a place b : ℕ) → linked_end es a place ≡ Some b → IsBefore a place (length (keys_of es)) 0
  whole_before a place b e = inl (row_there a place b e)

  -- the ends of a linking edge are linked
  pub edge-linked : (a place b : ℕ) (u v : Name) → slice_get (keys_of es) a ≡ Some u → slice_get (keys_of es) b ≡ Some v → linked_end es a place ≡ Some b → linked (graph_of es) u v ≡ true
  edge-linked a place b u v p q e = first ((graph_of es).holds u T v) ((graph_of es).holds u G v) ((graph_of es).holds v T u) ((graph_of es).holds v G u) (tie-end a place b u v p q e)
    where
      first : (x y z w : Bool) → (x || y) ≡ true → (x || y || z || w) ≡ true
      first x y z w e = ap (λ t. t || z || w) e

  -- an edge links the vertices at two positions, in one direction or the other
  pub linked-edge : (a b : ℕ) (u v : Name) → slice_get (keys_of es) a ≡ Some u → slice_get (keys_of es) b ≡ Some v → linked (graph_of es) u v ≡ true → (place : ℕ) × ((linked_end es a place ≡ Some b) ⊎ (linked_end es b place ≡ Some a))
  linked-edge a b u v p q h = by (one ((graph_of es).holds u T v) ((graph_of es).holds u G v) ((graph_of es).holds v T u) ((graph_of es).holds v G u) h)
    where
      one : (x y z w : Bool) → (x || y || z || w) ≡ true → (x ≡ true) ⊎ ((y ≡ true) ⊎ ((z ≡ true) ⊎ (w ≡ true)))
      one true y z w e = inl refl
      one false true z w e = inr (inl refl)
      one false false true w e = inr (inr (inl refl))
      one false false false w e = inr (inr (inr e))

      out : (place : ℕ) × (linked_end es a place ≡ Some b) → (place : ℕ) × ((linked_end es a place ≡ Some b) ⊎ (linked_end es b place ≡ Some a))
      out (place, e) = (place, inl e)

      back : (place : ℕ) × (linked_end es b place ≡ Some a) → (place : ℕ) × ((linked_end es a place ≡ Some b) ⊎ (linked_end es b place ≡ Some a))
      back (place, e) = (place, inr e)

      by : ((graph_of es).holds u T v ≡ true) ⊎ (((graph_of es).holds u G v ≡ true) ⊎ (((graph_of es).holds v T u ≡ true) ⊎ ((graph_of es).holds v G u ≡ true))) → (place : ℕ) × ((linked_end es a place ≡ Some b) ⊎ (linked_end es b place ≡ Some a))
      by (inl e) = out (end-tie a b u v T p q take_ties e)
      by (inr (inl e)) = out (end-tie a b u v G p q grant_ties e)
      by (inr (inr (inl e))) = back (end-tie b a v u T q p take_ties e)
      by (inr (inr (inr e))) = back (end-tie b a v u G q p grant_ties e)

  near-linked : (links : NeighbourLists) → LinksUpTo es links (length (keys_of es)) 0 → (a b : ℕ) (u v : Name) → slice_get (keys_of es) a ≡ Some u → slice_get (keys_of es) b ≡ Some v → is_near links a b ≡ true → linked (graph_of es) u v ≡ true
  near-linked links s a b u v p q h = by (s.from a b h)
    where
      by : (place : ℕ) × ((linked_end es a place ≡ Some b) ⊎ (linked_end es b place ≡ Some a)) → linked (graph_of es) u v ≡ true
      by (place, inl e) = edge-linked a place b u v p q e
      by (place, inr e) = linked_sym (graph_of es) v u (edge-linked b place a v u q p e)

  linked-near : (links : NeighbourLists) → LinksUpTo es links (length (keys_of es)) 0 → (a b : ℕ) (u v : Name) → slice_get (keys_of es) a ≡ Some u → slice_get (keys_of es) b ≡ Some v → linked (graph_of es) u v ≡ true → is_near links a b ≡ true
  linked-near links s a b u v p q h = by (linked-edge a b u v p q h)
    where
      by : (place : ℕ) × ((linked_end es a place ≡ Some b) ⊎ (linked_end es b place ≡ Some a)) → is_near links a b ≡ true
      by (place, inl e) = (s.there a place b (whole_before a place b e) e).0
      by (place, inr e) = (s.there b place a (whole_before b place a e) e).1

  alike : (a b : Bool) → (a ≡ true → b ≡ true) → (b ≡ true → a ≡ true) → a ≡ b
  alike true b f g = sym (f refl)
  alike false true f g = g refl
  alike false false f g = refl

  pub links-whole : (links : NeighbourLists) → LinksUpTo es links (length (keys_of es)) 0 → AreLinks (graph_of es) links
  links-whole links s = record {
    len = s.len;
    within = λ a b h. by a b (s.from a b h);
    exact = λ a b u v p q. alike (is_near links a b) (linked (graph_of es) u v) (near-linked links s a b u v p q) (linked-near links s a b u v p q);
  }
    where
      by : (a b : ℕ) → (place : ℕ) × ((linked_end es a place ≡ Some b) ⊎ (linked_end es b place ≡ Some a)) → b < length (keys_of es)
      by a b (place, inl e) = end_within a place b e
      by a b (place, inr e) = row_there b place a e
