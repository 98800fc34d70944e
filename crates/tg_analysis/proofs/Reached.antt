-- Rights that are joined into sets, by island and by target, and what they say of sharing.
use Rattle.std.proofs.Common.{◌≡◌, ℕ, ◌<◌, ◌≤◌, ◌+◌, ◌^◌, ◌↔◌, Bool, true, false, ◌&&◌, List, replicate, refl, sym, ap, subst, ◌∙◌, nat_eq, bytes_eq, length, slice_get, get_or, Some, None, arith, lit<, true≢false, inl, inr, ◌⊎◌, IsTrue}
use Rattle.std.specs.List.{list_any}
use Rattle.std.specs.Map.{keys_of}
use Rattle.std.proofs.lemmas.Bool.{cases_lt, eq-eqb, eqb-true, and_parts, or_cases, or_left, or_right}
use Rattle.std.proofs.lemmas.List.{get_or-replicate, get_or_past, length-replicate}
use Rattle.std.proofs.lemmas.Option.{slice_get-get_or, slice_get_within, get_or_from_slice_get}
use Rattle.tg_names.specs.declared.right_sets.Right.{Right}
use Rattle.tg_names.specs.declared.right_sets.Rights.{Rights}
use Rattle.tg_graph.specs.declared.ends.Wanted.TheVariants.{All}
use Rattle.tg_names.specs.Sets.{member, nothing, IsNamed}
use Rattle.tg_graph.specs.Ends.{end_of}
use Rattle.tg_names.specs.Names.{Name}
use Rattle.tg_graph.specs.Graphs.{WellFormed}
use Rattle.tg_graph.specs.GraphOf.{graph_of}
use Rattle.tg_rows.specs.Rows.{Entries, IsGraph, row_number, label_in}
use Rattle.tg_graph.specs.RuleLists.{CanShare, CanShareAll}
use Rattle.tg_names.proofs.Sets.{member-nothing}
use Rattle.tg_islands.specs.Sharing.{SharedExactly, TogetherAsAlone, HeldInIsland}
use Rattle.tg_islands.specs.Numbering.{AreCounted, AreIslands}
use Rattle.tg_index.specs.IslandEdges.{target_of, HasEdgeFrom}
use Rattle.tg_index.specs.ByTarget.{HoldsIn}
use Rattle.tg_analysis.specs.Reaching.{TellWho, TellReach, set_at, AreNamedSets, GainsRights, HoldsBefore, HoldUpTo, HasEach, MarkUpTo, GainsLabel, GainLabels, ReachUpTo}
use Rattle.tg_islands.proofs.Places.{place_of, place-known}
use Rattle.tg_index.proofs.IslandEdges.{is_there, edge-exact}
use Rattle.tg_index.proofs.ByTarget.{end-leads, target-within, scan-exact}
use Rattle.tg_islands.proofs.RowEnds.{some-pair, end-there}

-- the empty set has no member
pub nothing-has : (right : Right) → IsTrue (member nothing right) → ⊥
nothing-has right m = true≢false (sym m ∙ member-nothing right)

-- empty sets, as many as there are
set-empty : (count a : ℕ) → set_at (replicate count nothing) a ≡ nothing
set-empty count a = by (cases_lt a count)
  where
    by : (a < count) ⊎ (count ≤ a) → set_at (replicate count nothing) a ≡ nothing
    by (inl l) = get_or-replicate count a nothing nothing l
    by (inr l) = get_or_past (replicate count nothing) a nothing (omega (arith, length-replicate {A = Rights} count nothing))

named-empty : (count : ℕ) → AreNamedSets (replicate count nothing)
named-empty count a = subst IsNamed (sym (set-empty count a)) (lit< tt)

-- ---- one set has more rights
-- a right that a set has by now it had, or it is one of those that it gained
module _ (place : ℕ) (rights : Rights) (old new : List Rights) (gain : GainsRights place rights old new) where
  gained : (a : ℕ) (right : Right) → IsTrue (member (set_at new a) right) → IsTrue (member (set_at old a) right) ⊎ ((a ≡ place) × IsTrue (member rights right))
  gained a right m = by (or_cases (member (set_at old a) right) (nat_eq a place && member rights right) (sym (gain.members a right) ∙ m))
    where
      by : (member (set_at old a) right ≡ true) ⊎ ((nat_eq a place && member rights right) ≡ true) → IsTrue (member (set_at old a) right) ⊎ ((a ≡ place) × IsTrue (member rights right))
      by (inl h) = inl h
      by (inr h) = let p = and_parts (nat_eq a place) (member rights right) h in inr (eqb-true a place p.0, p.1)

  kept : (a : ℕ) (right : Right) → IsTrue (member (set_at old a) right) → IsTrue (member (set_at new a) right)
  kept a right m = gain.members a right ∙ or_left (member (set_at old a) right) _ m

  gets : (a : ℕ) (right : Right) → a ≡ place → IsTrue (member rights right) → IsTrue (member (set_at new a) right)
  gets a right is m = gain.members a right ∙ or_right (member (set_at old a) right) _ (λ i. eq-eqb a place is i && m i)

-- ---- what islands hold over one vertex
module _ (es : Entries) (numbers : List ℕ) (y : Name) where
  pub hold-none : (count : ℕ) (held : List Rights) → AreCounted numbers count → held ≡ replicate count nothing → HoldUpTo es numbers y 0 held
  hold-none count held counted is = record {
    counted = subst (AreCounted numbers) (sym (ap length is ∙ length-replicate count nothing)) counted;
    named = subst AreNamedSets (sym is) (named-empty count);
    members = λ number right. (
      λ m. absurd (nothing-has right (sym (ap (λ s. member s right) (ap (λ (sets : List Rights). set_at sets number) is ∙ set-empty count number)) ∙ m)),
      λ h. absurd (let low = h.1 in omega arith),
    );
  }

  further : (right : Right) (number position : ℕ) → HoldsBefore es numbers right number y position → HoldsBefore es numbers right number y (position + 1)
  further right number position h = (h.0, (let low = h.1 in omega arith), h.2, h.3)

  -- a vertex before the position, or the one there
  last_one : (right : Right) (number position : ℕ) → HoldsBefore es numbers right number y (position + 1) → HoldsBefore es numbers right number y position ⊎ ((slice_get numbers position ≡ Some number) × IsTrue (member (label_in (row_number es position) y) right))
  last_one right number position h = by (cases_lt h.0 position)
    where
      by : (h.0 < position) ⊎ (position ≤ h.0) → HoldsBefore es numbers right number y position ⊎ ((slice_get numbers position ≡ Some number) × IsTrue (member (label_in (row_number es position) y) right))
      by (inl l) = inl (h.0, l, h.2, h.3)
      by (inr l) =
          let is : h.0 ≡ position = (let low = h.1 in omega arith) in
          inr (subst (λ n. slice_get numbers n ≡ Some number) is h.2, subst (λ n. IsTrue (member (label_in (row_number es n) y) right)) is h.3)

  module _ (position : ℕ) (old : List Rights) (so_far : HoldUpTo es numbers y position old) where
    pub hold-other : slice_get numbers position ≡ None → HoldUpTo es numbers y (position + 1) old
    hold-other none = record {
      counted = so_far.counted;
      named = so_far.named;
      members = λ number right. (λ m. further right number position ((so_far.members number right).0 m), λ h. by number right (last_one right number position h));
    }
      where
        by : (number : ℕ) (right : Right) → HoldsBefore es numbers right number y position ⊎ ((slice_get numbers position ≡ Some number) × IsTrue (member (label_in (row_number es position) y) right)) → IsTrue (member (set_at old number) right)
        by number right (inl h) = (so_far.members number right).1 h
        by number right (inr h) = let of = h.0 in cc

    pub hold-more : (own : ℕ) (rights : Rights) (new : List Rights) → slice_get numbers position ≡ Some own → rights ≡ label_in (row_number es position) y → GainsRights own rights old new → HoldUpTo es numbers y (position + 1) new
    hold-more own rights new of is gain = record {
      counted = subst (AreCounted numbers) (sym gain.len) so_far.counted;
      named = gain.named;
      members = λ number right. (λ m. forth number right (gained own rights old new gain number right m), λ h. back number right (last_one right number position h));
    }
      where
        here : (right : Right) → member rights right ≡ member (label_in (row_number es position) y) right
        here right = ap (λ s. member s right) is

        forth : (number : ℕ) (right : Right) → IsTrue (member (set_at old number) right) ⊎ ((number ≡ own) × IsTrue (member rights right)) → HoldsBefore es numbers right number y (position + 1)
        forth number right (inl m) = further right number position ((so_far.members number right).0 m)
        forth number right (inr (same, m)) = (position, omega arith, of ∙ ap Some (sym same), sym (here right) ∙ m)

        back : (number : ℕ) (right : Right) → HoldsBefore es numbers right number y position ⊎ ((slice_get numbers position ≡ Some number) × IsTrue (member (label_in (row_number es position) y) right)) → IsTrue (member (set_at new number) right)
        back number right (inl h) = kept own rights old new gain number right ((so_far.members number right).1 h)
        back number right (inr h) =
            let same : number ≡ own = (let p = h.0 in cc) in
            gets own rights old new gain number right same (here right ∙ h.1)

module _ (es : Entries) (a place : ℕ) (old new : List Rights) where
  pub label-none : AreNamedSets old → end_of es a place All ≡ None → new ≡ old → GainsLabel es a place old new
  label-none named none is = record {
    len = ap length is;
    named = subst AreNamedSets (sym is) named;
    members = λ b right. (
      λ m. inl (subst (λ (sets : List Rights). IsTrue (member (set_at sets b) right)) is m),
      λ h. by b right h,
    );
  }
    where
      by : (b : ℕ) (right : Right) → IsTrue (member (set_at old b) right) ⊎ (target_of es right a place ≡ Some b) → IsTrue (member (set_at new b) right)
      by b right (inl m) = subst (λ (sets : List Rights). IsTrue (member (set_at sets b) right)) (sym is) m
      by b right (inr e) = let some = end-there es right a place b (is_there es right a place b e) in cc

  pub label-more : (j : ℕ) (label : Rights) → end_of es a place All ≡ Some (j, label) → GainsRights j label old new → GainsLabel es a place old new
  label-more j label e gain = record {
    len = gain.len;
    named = gain.named;
    members = λ b right. (λ m. forth b right (gained j label old new gain b right m), λ h. back b right h);
  }
    where
      forth : (b : ℕ) (right : Right) → IsTrue (member (set_at old b) right) ⊎ ((b ≡ j) × IsTrue (member label right)) → IsTrue (member (set_at old b) right) ⊎ (target_of es right a place ≡ Some b)
      forth b right (inl m) = inl m
      forth b right (inr (is, m)) = inr (end-leads es right a place j label e m ∙ ap Some (sym is))

      back : (b : ℕ) (right : Right) → IsTrue (member (set_at old b) right) ⊎ (target_of es right a place ≡ Some b) → IsTrue (member (set_at new b) right)
      back b right (inl m) = kept j label old new gain b right m
      back b right (inr t) =
          let there = is_there es right a place b t in
          let both : Some (b, there.label) ≡ Some (j, label) = sym (end-there es right a place b there) ∙ e in
          let same = some-pair b j there.label label both in
          gets j label old new gain b right same.0 (subst (λ (s : Rights). IsTrue (member s right)) same.1 there.held)

module _ (es : Entries) (a : ℕ) where
  pub labels-more : (count : ℕ) (first old new : List Rights) → GainLabels es a count first old → GainsLabel es a count old new → GainLabels es a (count + 1) first new
  labels-more count first old new so_far one = record {
    len = one.len ∙ so_far.len;
    named = one.named;
    members = λ b right. (λ m. forth b right ((one.members b right).0 m), λ h. back b right h);
  }
    where
      later : (b : ℕ) (right : Right) → IsTrue (member (set_at first b) right) ⊎ ((place : ℕ) × (place < count) × (target_of es right a place ≡ Some b)) → IsTrue (member (set_at first b) right) ⊎ ((place : ℕ) × (place < count + 1) × (target_of es right a place ≡ Some b))
      later b right (inl m) = inl m
      later b right (inr (place, low, e)) = inr (place, omega arith, e)

      forth : (b : ℕ) (right : Right) → IsTrue (member (set_at old b) right) ⊎ (target_of es right a count ≡ Some b) → IsTrue (member (set_at first b) right) ⊎ ((place : ℕ) × (place < count + 1) × (target_of es right a place ≡ Some b))
      forth b right (inl m) = later b right ((so_far.members b right).0 m)
      forth b right (inr e) = inr (count, omega arith, e)

      back : (b : ℕ) (right : Right) → IsTrue (member (set_at first b) right) ⊎ ((place : ℕ) × (place < count + 1) × (target_of es right a place ≡ Some b)) → IsTrue (member (set_at new b) right)
      back b right (inl m) = (one.members b right).1 (inl ((so_far.members b right).1 (inl m)))
      back b right (inr (place, low, e)) = by (cases_lt place count)
        where
          by : (place < count) ⊎ (count ≤ place) → IsTrue (member (set_at new b) right)
          by (inl l) = (one.members b right).1 (inl ((so_far.members b right).1 (inr (place, l, e))))
          by (inr l) = let is : place ≡ count = omega arith in (one.members b right).1 (inr (subst (λ n. target_of es right a n ≡ Some b) is e))

-- ---- what an island holds over each vertex
module _ (es : Entries) (numbers : List ℕ) (number : ℕ) where
  pub reach-none : (count : ℕ) (sets : List Rights) → count ≡ length (keys_of es) → sets ≡ replicate count nothing → ReachUpTo es numbers number 0 sets
  reach-none count sets len is = record {
    len = ap length is ∙ length-replicate count nothing ∙ len;
    named = subst AreNamedSets (sym is) (named-empty count);
    members = λ b right. (
      λ m. absurd (nothing-has right (sym (ap (λ s. member s right) (ap (λ (sets : List Rights). set_at sets b) is ∙ set-empty count b)) ∙ m)),
      λ e. absurd (let low = e.before in omega arith),
    );
  }

  wider : (right : Right) (position b : ℕ) → HasEdgeFrom es numbers right 0 position number b → HasEdgeFrom es numbers right 0 (position + 1) number b
  wider right position b e = record { a = e.a; place = e.place; from = e.from; before = (let low = e.before in omega arith); edge = e.edge }

  -- an edge out of a vertex before the position, or of the one there
  from_last : (right : Right) (position b : ℕ) → HasEdgeFrom es numbers right 0 (position + 1) number b → HasEdgeFrom es numbers right 0 position number b ⊎ ((slice_get numbers position ≡ Some number) × (place : ℕ) × (target_of es right position place ≡ Some b))
  from_last right position b e = by (cases_lt e.a position)
    where
      by : (e.a < position) ⊎ (position ≤ e.a) → HasEdgeFrom es numbers right 0 position number b ⊎ ((slice_get numbers position ≡ Some number) × (place : ℕ) × (target_of es right position place ≡ Some b))
      by (inl l) = inl (record { a = e.a; place = e.place; from = e.from; before = l; edge = e.edge })
      by (inr l) =
          let is : e.a ≡ position = (let low = e.before in omega arith) in
          inr (subst (λ n. slice_get numbers n ≡ Some number) is e.edge.of, e.place, subst (λ n. target_of es right n e.place ≡ Some b) is e.edge.leads)

  module _ (position : ℕ) (old : List Rights) (so_far : ReachUpTo es numbers number position old) where
    pub reach-other : (slice_get numbers position ≡ Some number → ⊥) → ReachUpTo es numbers number (position + 1) old
    reach-other other = record {
      len = so_far.len;
      named = so_far.named;
      members = λ b right. (λ m. wider right position b ((so_far.members b right).0 m), λ e. by b right (from_last right position b e));
    }
      where
        by : (b : ℕ) (right : Right) → HasEdgeFrom es numbers right 0 position number b ⊎ ((slice_get numbers position ≡ Some number) × (place : ℕ) × (target_of es right position place ≡ Some b)) → IsTrue (member (set_at old b) right)
        by b right (inl e) = (so_far.members b right).1 e
        by b right (inr e) = absurd (other e.0)

    pub reach-more : (new : List Rights) → slice_get numbers position ≡ Some number → GainLabels es position (length (row_number es position)) old new → ReachUpTo es numbers number (position + 1) new
    reach-more new of gain = record {
      len = gain.len ∙ so_far.len;
      named = gain.named;
      members = λ b right. (λ m. forth b right ((gain.members b right).0 m), λ e. back b right (from_last right position b e));
    }
      where
        forth : (b : ℕ) (right : Right) → IsTrue (member (set_at old b) right) ⊎ ((place : ℕ) × (place < length (row_number es position)) × (target_of es right position place ≡ Some b)) → HasEdgeFrom es numbers right 0 (position + 1) number b
        forth b right (inl m) = wider right position b ((so_far.members b right).0 m)
        forth b right (inr (place, low, e)) = record { a = position; place = place; from = omega arith; before = omega arith; edge = record { of = of; leads = e } }

        back : (b : ℕ) (right : Right) → HasEdgeFrom es numbers right 0 position number b ⊎ ((slice_get numbers position ≡ Some number) × (place : ℕ) × (target_of es right position place ≡ Some b)) → IsTrue (member (set_at new b) right)
        back b right (inl e) = (gain.members b right).1 (inl ((so_far.members b right).1 e))
        back b right (inr (o, place, e)) = (gain.members b right).1 (inr (place, target-within es right position place b e, e))

-- ---- what they say of sharing
module _ (es : Entries) (ok : IsGraph es) (well : WellFormed (graph_of es)) (shared : SharedExactly) (few : length (keys_of es) < 2 ^ 64) (numbers : List ℕ) (are : AreIslands (graph_of es) numbers) where
  -- the number of each vertex's island
  number-at : (a : ℕ) (u : Name) → slice_get (keys_of es) a ≡ Some u → slice_get numbers a ≡ Some (get_or numbers a 0)
  number-at a u at = slice_get-get_or numbers a 0 (let low = slice_get_within (keys_of es) a u at in omega (arith, are.len))

  -- sets of the whole island
  module _ (number i : ℕ) (x : Name) (at_x : slice_get (keys_of es) i ≡ Some x) (of_x : slice_get numbers i ≡ Some number) (sets : List Rights) (reach : ReachUpTo es numbers number (length (keys_of es)) sets) where
    set-exact : (a : ℕ) (y : Name) (s : Rights) (right : Right) → slice_get (keys_of es) a ≡ Some y → slice_get sets a ≡ Some s → IsTrue (member s right) ↔ CanShare (graph_of es) right x y
    set-exact a y s right at_y stands =
        let is : set_at sets a ≡ s = get_or_from_slice_get sets a s nothing stands in
        let exact = edge-exact es ok well shared few numbers are right i a x y at_x at_y number of_x in
        let has = reach.members a right in
        (λ m. exact.0 (has.0 (ap (λ t. member t right) is ∙ m)), λ c. sym (ap (λ t. member t right) is) ∙ has.1 (exact.1 c))

    pub reach-exact : TellReach (graph_of es) x sets
    reach-exact = record {
      len = reach.len;
      named = λ a s stands. subst IsNamed (get_or_from_slice_get sets a s nothing stands) (reach.named a);
      yes = set-exact;
      no = λ a y s right at_y stands no can. true≢false (sym ((set-exact a y s right at_y stands).1 can) ∙ no);
    }

  -- marks of all islands
  module _ (together : TogetherAsAlone) (rights named : Rights) (same : (right : Right) → member named right ≡ member rights right) (y : Name) (known_y : list_any (bytes_eq y) (keys_of es) ≡ true) (held : List Rights) (hold : HoldUpTo es numbers y (length (keys_of es)) held) where
    -- an island has each right of the set exactly where its vertices can come to have them all
    each-exact : (a : ℕ) (x : Name) (number : ℕ) → slice_get (keys_of es) a ≡ Some x → slice_get numbers a ≡ Some number → HasEach (set_at held number) named ↔ CanShareAll (graph_of es) rights x y
    each-exact a x number at_x of_x = (λ each. law.1 (λ right m. forth right (each right (same right ∙ m))), λ all right m. back right (law.0 all right (sym (same right) ∙ m)))
      where
        known_x : list_any (bytes_eq x) (keys_of es) ≡ true
        known_x = place-known (keys_of es) a x at_x

        law : CanShareAll (graph_of es) rights x y ↔ ((right : Right) → IsTrue (member rights right) → HeldInIsland (graph_of es) right x y)
        law = together (graph_of es) rights x y well few known_x known_y

        one : (right : Right) → CanShare (graph_of es) right x y ↔ HeldInIsland (graph_of es) right x y
        one right = shared (graph_of es) right x y well few known_x known_y

        scan : (right : Right) → HoldsIn es numbers right number y ↔ CanShare (graph_of es) right x y
        scan right =
            let p = place_of (keys_of es) y known_y in
            scan-exact es ok well shared few numbers are right a p.0 x y at_x p.1 number of_x

        forth : (right : Right) → IsTrue (member (set_at held number) right) → HeldInIsland (graph_of es) right x y
        forth right m = let h = (hold.members number right).0 m in (one right).0 ((scan right).0 (h.0, h.2, h.3))

        back : (right : Right) → HeldInIsland (graph_of es) right x y → IsTrue (member (set_at held number) right)
        back right h =
            let s = (scan right).1 ((one right).1 h) in
            (hold.members number right).1 (s.0, (let low = slice_get_within numbers s.0 number s.1 in omega (arith, are.len)), s.1, s.2)

    pub who-exact : (marks : List Bool) → MarkUpTo numbers held named (length numbers) marks → TellWho (graph_of es) rights y marks
    who-exact marks mark = record {
      len = mark.len ∙ are.len;
      yes = λ a x at_x. (λ stands. (exact a x true at_x stands).0 refl, λ all. yes a x at_x all);
      no = λ a x at_x stands all. true≢false (sym ((exact a x false at_x stands).1 all));
    }
      where
        exact : (a : ℕ) (x : Name) (m : Bool) → slice_get (keys_of es) a ≡ Some x → slice_get marks a ≡ Some m → IsTrue m ↔ CanShareAll (graph_of es) rights x y
        exact a x m at_x stands =
            let of = number-at a x at_x in
            let e = mark.exact a m (get_or numbers a 0) stands of in
            let f = each-exact a x (get_or numbers a 0) at_x of in
            (λ t. f.0 (e.0 t), λ all. e.1 (f.1 all))

        yes : (a : ℕ) (x : Name) → slice_get (keys_of es) a ≡ Some x → CanShareAll (graph_of es) rights x y → slice_get marks a ≡ Some true
        yes a x at_x all =
            let low = slice_get_within (keys_of es) a x at_x in
            let stands : slice_get marks a ≡ Some (get_or marks a false) = slice_get-get_or marks a false (omega (arith, mark.len, are.len)) in
            stands ∙ ap Some ((exact a x (get_or marks a false) at_x stands).1 all)
