-- Laws of least cuts: there is one, when it has no rule, and that it is short where no edge is kept.
use Rattle.std.proofs.Common.{◌≡◌, ℕ, zero, suc, ◌≤◌, ◌<◌, ◌^◌, ◌⊎◌, inl, inr, Bool, true, false, not, ◌&&◌, ◌||◌, List, [], ◌∷◌, map, length, slice_get, Some, refl, sym, ap, subst, ◌∙◌, IsTrue, arith}
use Rattle.std.specs.List.{AllByRecursion, list_any}
use Rattle.std.proofs.lemmas.Bool.{false≢true, both_ways, or_cases, or_left, or_right, or_from, and_parts, and_from, true_from_ne_false, false_from_ne_true, cases_Bool, cases_lt}
use Rattle.std.proofs.lemmas.List.{length-map}
use Rattle.tg_names.specs.declared.right_sets.Right.{Right}
use Rattle.tg_names.specs.declared.right_sets.Rights.{Rights}
use Rattle.tg_graph.specs.declared.rules.Rule.{Rule}
use Rattle.tg_graph.specs.declared.rules.Rule.TheVariants.{Take, Grant, Create, Remove}
use Rattle.tg_names.specs.Sets.{member, is_empty_set, IsNamed}
use Rattle.tg_names.specs.Names.{Name, same_name}
use Rattle.tg_graph.specs.Graphs.{ProtectionGraph, has_vertex, WellFormed}
use Rattle.tg_graph.specs.Rules.{with_rights}
use Rattle.tg_graph.specs.RuleLists.{after_all, CanShare}
use Rattle.tg_rows.proofs.Rows.{same_bytes}
use Rattle.tg_names.proofs.Sets.{same_set}
use Rattle.tg_names.proofs.RightsWords.{one_itself, one_alone}
use Rattle.tg_cuts.specs.declared.kept.Ends.{Ends}
use Rattle.tg_islands.specs.Moves.{only, take_and_grant}
use Rattle.tg_islands.specs.Sharing.{linked, InOneIsland, HeldInIsland}
use Rattle.tg_cuts.specs.Cuts.{is_one_of, Loses, Keeps, TakesHeld, ComesFirst, AreInOrder, edges_of, IsTheCut}
use Rattle.tg_cut_laws.specs.CutLaws.{ThereIsOneCut, NoRuleWhereNo, NotBoth, CutsAreShort}
use Rattle.tg_cuts.specs.CutParts.{takes, are_taken}
use Rattle.tg_islands.proofs.NameTests.{same_refl, edge_cases}
use Rattle.tg_islands.proofs.OneIsland.{linked_sym, island_trans}
use Rattle.tg_islands.proofs.AllHeld.{shared_exactly}
use Rattle.tg_cuts.proofs.Able.{able, held-able, able-held, able-holds, able-link, able-can, can-held, can-able}
use Rattle.tg_cuts.proofs.EdgeOrder.{first-itself, first-both}
use Rattle.tg_cuts.proofs.Removed.{remove-held, some_member, after-removes, edges-length, held-removes, cut-loses, cut-keeps, loses-vertex, loses-well}
use Rattle.tg_cuts.proofs.Bounds.{ties-linked}
use Rattle.tg_cuts.proofs.Sides.{link-ties}
use Rattle.tg_cuts.proofs.Needed.{GoesOver, over-edge, back-differs, back-well}

-- ---- no rule, and no cut
loses-nothing : (g : ProtectionGraph) → Loses g g []
loses-nothing g = record { vertices = refl; fewer = λ u right v has. has; others = λ u right v beside. refl }

pub no-rule-where-no : NoRuleWhereNo
no-rule-where-no g right x y kept cut is = (none, λ cannot. empty cut is.least_cut.least cannot)
  where
    none : cut ≡ [] → CanShare g right x y → ⊥
    none e can = is.least_cut.no (subst (λ (rules : List Rule). CanShare (after_all g rules) right x y) (sym e) can)

    empty : (rules : List Rule) → ((h : ProtectionGraph) (edges : List Ends) → Loses g h edges → Keeps g h kept → length edges < length rules → CanShare h right x y) → (CanShare g right x y → ⊥) → rules ≡ []
    empty [] least cannot = refl
    empty (rule ∷ rules) least cannot = absurd (cannot (least g [] (loses-nothing g) (λ u held v among. refl) (omega arith)))

pub not-both : NotBoth
not-both g right x y kept cut is none = is.least_cut.no (none (after_all g cut) (edges_of cut) (cut-loses g kept cut is.least_cut.held) (cut-keeps g kept cut is.least_cut.held))

-- ---- as many rules as vertices
-- the graph in which nobody holds the right over y
abbrev unheld : ProtectionGraph → Right → Name → ProtectionGraph
unheld g right y = record { vertices = g.vertices; holds = λ u held v. g.holds u held v && not (same_name v y && member (only right) held) }

module _ (g : ProtectionGraph) (right : Right) (y : Name) where
  unheld-old : (u : Name) (held : Right) (v : Name) → (unheld g right y).holds u held v ≡ true → g.holds u held v ≡ true
  unheld-old u held v has = (and_parts (g.holds u held v) (not (same_name v y && member (only right) held)) has).0

  abbrev edge_from : Name → Ends
  edge_from u = record { source = u; target = y }

  abbrev all_to : List Name → List Ends
  all_to vs = map edge_from vs

  among-all : (vs : List Name) (u v : Name) → list_any (same_name u) vs ≡ true → same_name v y ≡ true → is_one_of (all_to vs) u v ≡ true
  among-all [] u v there is = absurd (false≢true there)
  among-all (w ∷ vs) u v there is = by (or_cases (same_name u w) (list_any (same_name u) vs) there) (among-all vs u v)
    where
      by : (same_name u w ≡ true) ⊎ (list_any (same_name u) vs ≡ true) → (list_any (same_name u) vs ≡ true → same_name v y ≡ true → is_one_of (all_to vs) u v ≡ true) → ((same_name u w && same_name v y) || is_one_of (all_to vs) u v) ≡ true
      by (inl here) rest = or_left (same_name u w && same_name v y) (is_one_of (all_to vs) u v) (and_from (same_name u w) (same_name v y) here is)
      by (inr later) rest = or_right (same_name u w && same_name v y) (is_one_of (all_to vs) u v) (rest later is)

  unheld-others : WellFormed g → (u : Name) (held : Right) (v : Name) → is_one_of (all_to g.vertices) u v ≡ false → (unheld g right y).holds u held v ≡ g.holds u held v
  unheld-others well u held v beside = by (cases_Bool (g.holds u held v)) (cases_Bool (same_name v y))
    where
      by : (g.holds u held v ≡ true) ⊎ (g.holds u held v ≡ false) → (same_name v y ≡ true) ⊎ (same_name v y ≡ false) → (g.holds u held v && not (same_name v y && member (only right) held)) ≡ g.holds u held v
      by (inl has) (inl is) = absurd (both_ways (is_one_of (all_to g.vertices) u v) beside (among-all g.vertices u v (well.ends u held v has).0 is))
      by (inl has) (inr other) = (λ i. has i && not (other i && member (only right) held)) ∙ sym has
      by (inr none) q = (λ i. none i && not (same_name v y && member (only right) held)) ∙ sym none

  unheld-loses : WellFormed g → Loses g (unheld g right y) (all_to g.vertices)
  unheld-loses well = record { vertices = refl; fewer = unheld-old; others = unheld-others well }

  nobody : (s : Name) → (unheld g right y).holds s right y ≡ true → ⊥
  nobody s has =
      let p = and_parts (g.holds s right y) (not (same_name y y && member (only right) right)) has in
      let is : (same_name y y && member (only right) right) ≡ true = and_from (same_name y y) (member (only right) right) (same_refl y) (one_itself right) in
      false≢true (sym (ap not is) ∙ p.1)

pub cuts-short : CutsAreShort
cuts-short g right x y cut well small x_there y_there is = by (cases_lt (length (all_to g right y g.vertices)) (length cut))
  where
    loses : Loses g (unheld g right y) (all_to g right y g.vertices)
    loses = unheld-loses g right y well

    by : (length (all_to g right y g.vertices) < length cut) ⊎ (length cut ≤ length (all_to g right y g.vertices)) → length cut ≤ length g.vertices
    by (inr few) = omega (arith, few, length-map g.vertices (edge_from g right y))
    by (inl more) =
        let can = is.least (unheld g right y) (all_to g right y g.vertices) loses (λ u held v among. absurd (false≢true among)) more in
        let held = can-held (unheld g right y) right y (loses-well g (unheld g right y) (all_to g right y g.vertices) loses well) small shared_exactly y_there x x_there can in
        absurd (nobody g right y held.0 held.1)

-- ---- two cuts take the same
-- the rules of a cut take only rights that are held
held-taken : (g : ProtectionGraph) (kept : List Ends) (cut : List Rule) → AllByRecursion (TakesHeld g kept) cut → (u : Name) (right : Right) (v : Name) → are_taken cut u right v ≡ true → g.holds u right v ≡ true
held-taken g kept [] held u right v h = absurd (false≢true h)
held-taken g kept (Take a b c s ∷ cut) held u right v h = held-taken g kept cut held.1 u right v h
held-taken g kept (Grant a b c s ∷ cut) held u right v h = held-taken g kept cut held.1 u right v h
held-taken g kept (Create a n s ∷ cut) held u right v h = held-taken g kept cut held.1 u right v h
held-taken g kept (Remove a b s ∷ cut) held u right v h = by (or_cases (same_name u a && same_name v b && member s right) (are_taken cut u right v) h) (held-taken g kept cut held.1 u right v)
  where
    by : ((same_name u a && same_name v b && member s right) ≡ true) ⊎ (are_taken cut u right v ≡ true) → (are_taken cut u right v ≡ true → g.holds u right v ≡ true) → g.holds u right v ≡ true
    by (inr later) rest = rest later
    by (inl here) rest =
        let p = and_parts (same_name u a && same_name v b) (member s right) here in
        let q = and_parts (same_name u a) (same_name v b) p.0 in
        let r = remove-held g kept a b s held.0 in
        (λ i. g.holds (same_bytes u a q.0 i) right (same_bytes v b q.1 i)) ∙ r.held right p.1

-- what is taken is a right of one of the rules
taken-at : (g : ProtectionGraph) (kept : List Ends) (cut : List Rule) → AllByRecursion (TakesHeld g kept) cut → (u : Name) (right : Right) (v : Name) → are_taken cut u right v ≡ true → (k : ℕ) × (s : Rights) × (slice_get cut k ≡ Some (Remove u v s)) × (member s right ≡ true)
taken-at g kept [] held u right v h = absurd (false≢true h)
taken-at g kept (Take a b c s ∷ cut) held u right v h = let t = taken-at g kept cut held.1 u right v h in (suc t.0, t.1, t.2, t.3)
taken-at g kept (Grant a b c s ∷ cut) held u right v h = let t = taken-at g kept cut held.1 u right v h in (suc t.0, t.1, t.2, t.3)
taken-at g kept (Create a n s ∷ cut) held u right v h = let t = taken-at g kept cut held.1 u right v h in (suc t.0, t.1, t.2, t.3)
taken-at g kept (Remove a b s ∷ cut) held u right v h = by (or_cases (same_name u a && same_name v b && member s right) (are_taken cut u right v) h) (taken-at g kept cut held.1 u right v)
  where
    by : ((same_name u a && same_name v b && member s right) ≡ true) ⊎ (are_taken cut u right v ≡ true) → (are_taken cut u right v ≡ true → (k : ℕ) × (s : Rights) × (slice_get cut k ≡ Some (Remove u v s)) × (member s right ≡ true)) → (k : ℕ) × (t : Rights) × (slice_get (Remove a b s ∷ cut) k ≡ Some (Remove u v t)) × (member t right ≡ true)
    by (inr later) rest = let t = rest later in (suc t.0, t.1, t.2, t.3)
    by (inl here) rest =
        let p = and_parts (same_name u a && same_name v b) (member s right) here in
        let q = and_parts (same_name u a) (same_name v b) p.0 in
        (zero, s, (λ i. Some (Remove (sym (same_bytes u a q.0) i) (sym (same_bytes v b q.1) i) s)), p.1)

module _ (g : ProtectionGraph) (right : Right) (x y : Name) (kept : List Ends) (well : WellFormed g) (small : length g.vertices < 2 ^ 64) (x_there : IsTrue (has_vertex g x)) (y_there : IsTrue (has_vertex g y)) where
  module _ (cut : List Rule) (is : IsTheCut g right x y kept cut) where
    abbrev pub end : ProtectionGraph
    end = after_all g cut

    pub end-loses : Loses g end (edges_of cut)
    end-loses = cut-loses g kept cut is.least_cut.held

    pub end-keeps : Keeps g end kept
    end-keeps = cut-keeps g kept cut is.least_cut.held

    pub end-well : WellFormed end
    end-well = loses-well g end (edges_of cut) end-loses well

    pub end-there : (v : Name) → IsTrue (has_vertex g v) → IsTrue (has_vertex end v)
    end-there = loses-vertex g end (edges_of cut) end-loses

    pub end-small : length end.vertices < 2 ^ 64
    end-small = subst (λ (vs : List Name). length vs < 2 ^ 64) (sym end-loses.vertices) small

    pub end-can : (v : Name) → IsTrue (has_vertex g v) → able end right y v ≡ true → CanShare end right v y
    end-can v there can = able-can end right y end-well end-small shared_exactly (end-there y y_there) v (end-there v there) can

    pub end-able : (v : Name) → IsTrue (has_vertex g v) → CanShare end right v y → able end right y v ≡ true
    end-able v there can = can-able end right y end-well end-small shared_exactly (end-there y y_there) v (end-there v there) can

    pub end-length : length (edges_of cut) ≡ length cut
    end-length = edges-length cut (held-removes g kept cut is.least_cut.held)

    pub end-no : able end right y x ≡ true → ⊥
    end-no can = is.least_cut.no (end-can x x_there can)

    -- whoever is in x's island can't
    pub island-no : (t : Name) → InOneIsland end x t → able end right y t ≡ true → IsTrue (has_vertex end t) → ⊥
    island-no t island can there =
        let held = able-held end right y t there can in
        end-no (held-able end right y x (held.0, held.1, island_trans end x t held.0 island held.2))

  module _ (one other : List Rule) (is_one : IsTheCut g right x y kept one) (is_other : IsTheCut g right x y kept other) where
    -- neither has fewer edges
    no-fewer : (a b : List Rule) → IsTheCut g right x y kept a → IsTheCut g right x y kept b → length b ≤ length a
    no-fewer a b is_a is_b = by (cases_lt (length a) (length b))
      where
        by : (length a < length b) ⊎ (length b ≤ length a) → length b ≤ length a
        by (inr few) = few
        by (inl more) = absurd (is_a.least_cut.no (is_b.least_cut.least (end a is_a) (edges_of a) (end-loses a is_a) (end-keeps a is_a) (let count = end-length a is_a in omega (arith, more, count))))

    -- whoever can after the second can after the first
    after-other : (v : Name) → IsTrue (has_vertex g v) → able (end other is_other) right y v ≡ true → able (end one is_one) right y v ≡ true
    after-other v there can =
        let count = no-fewer one other is_one is_other in
        let len = end-length other is_other in
        end-able one is_one v there (is_one.nearest (end other is_other) (edges_of other) (end-loses other is_other) (end-keeps other is_other) (omega (arith, count, len)) is_other.least_cut.no v there (end-can other is_other v there can))

    after-one : (v : Name) → IsTrue (has_vertex g v) → able (end one is_one) right y v ≡ true → able (end other is_other) right y v ≡ true
    after-one v there can =
        let count = no-fewer other one is_other is_one in
        let len = end-length one is_one in
        end-able other is_other v there (is_other.nearest (end one is_one) (edges_of one) (end-loses one is_one) (end-keeps one is_one) (omega (arith, count, len)) is_one.least_cut.no v there (end-can one is_one v there can))

    module _ (u : Name) (held : Right) (v : Name) (has : (end other is_other).holds u held v ≡ true) (there : IsTrue (has_vertex g u) × IsTrue (has_vertex g v)) where
      abbrev put : ProtectionGraph
      put = with_rights (end one is_one) u v (only held)

      tied : member take_and_grant held ≡ true → linked (end other is_other) u v ≡ true
      tied m = ties-linked (end other is_other) u v (link-ties (end other is_other) u held v m has)

      -- no end of the edge is in x's island, where the other can
      source-apart : member take_and_grant held ≡ true → InOneIsland (end one is_one) x u → able (end one is_one) right y v ≡ true → ⊥
      source-apart m island can = island-no one is_one u island (after-other u there.0 (able-link (end other is_other) right y u v (end-there other is_other u there.0) (end-there other is_other v there.1) (tied m) (after-one v there.1 can))) (end-there one is_one u there.0)

      target-apart : member take_and_grant held ≡ true → InOneIsland (end one is_one) x v → able (end one is_one) right y u ≡ true → ⊥
      target-apart m island can = island-no one is_one v island (after-other v there.1 (able-link (end other is_other) right y v u (end-there other is_other v there.1) (end-there other is_other u there.0) (linked_sym (end other is_other) u v (tied m)) (after-one u there.0 can))) (end-there one is_one v there.1)

      -- nor the source, where it is the right over y
      holder-able : v ≡ y → held ≡ right → able (end one is_one) right y u ≡ true
      holder-able to_y is = after-other u there.0 (able-holds (end other is_other) right y u (subst (λ (w : Name). (end other is_other).holds u right w ≡ true) to_y (subst (λ (r : Right). (end other is_other).holds u r v ≡ true) is has)))

      holder-apart : v ≡ y → held ≡ right → InOneIsland (end one is_one) x u → ⊥
      holder-apart to_y is island = island-no one is_one u island (holder-able to_y is) (end-there one is_one u there.0)

      -- one that can is in neither
      ends-apart : member take_and_grant held ≡ true → InOneIsland (end one is_one) x u ⊎ InOneIsland (end one is_one) x v → able (end one is_one) right y u ≡ true ⊎ able (end one is_one) right y v ≡ true → ⊥
      ends-apart m (inl island) (inl can) = island-no one is_one u island can (end-there one is_one u there.0)
      ends-apart m (inl island) (inr can) = source-apart m island can
      ends-apart m (inr island) (inl can) = target-apart m island can
      ends-apart m (inr island) (inr can) = island-no one is_one v island can (end-there one is_one v there.1)

      -- who comes to a holder can
      comes-able : (t s : Name) → IsTrue (has_vertex g t) → InOneIsland (end one is_one) t s → (end one is_one).holds s right y ≡ true → able (end one is_one) right y t ≡ true
      comes-able t s t_there island holds = held-able (end one is_one) right y t (s, holds, island)

      -- put back, it does not let x come to the right
      put-back : HeldInIsland put right x y → ⊥
      put-back h = let island = h.2 in by (edge_cases (end one is_one).holds u v (only held) h.0 right y h.1) (over-edge (end one is_one) put u v (back-differs (end one is_one) u v (only held)) x island.0 h.0 island.1)
        where
          new-tie : (way : GoesOver (end one is_one) put u v x h.0) → member take_and_grant held ≡ true
          new-tie way = cases (edge_cases (end one is_one).holds u v (only held) u way.tie v way.held)
            where
              cases : ((end one is_one).holds u way.tie v ≡ true) ⊎ ((u ≡ u) × (v ≡ v) × (member (only held) way.tie ≡ true)) → member take_and_grant held ≡ true
              cases (inl old) = absurd (both_ways ((end one is_one).holds u way.tie v) way.fresh old)
              cases (inr new) = subst (λ (r : Right). member take_and_grant r ≡ true) (sym (one_alone held way.tie new.2)) way.is_tie

          by : ((end one is_one).holds h.0 right y ≡ true) ⊎ ((h.0 ≡ u) × (y ≡ v) × (member (only held) right ≡ true)) → InOneIsland (end one is_one) x h.0 ⊎ GoesOver (end one is_one) put u v x h.0 → ⊥
          by (inl old) (inl island) = end-no one is_one (held-able (end one is_one) right y x (h.0, old, island))
          by (inl old) (inr way) = ends-apart (new-tie way) way.start (can way.finish)
            where
              can : InOneIsland (end one is_one) u h.0 ⊎ InOneIsland (end one is_one) v h.0 → able (end one is_one) right y u ≡ true ⊎ able (end one is_one) right y v ≡ true
              can (inl island) = inl (comes-able u h.0 there.0 island old)
              can (inr island) = inr (comes-able v h.0 there.1 island old)
          by (inr new) (inl island) = holder-apart (sym new.1) (one_alone held right new.2) (subst (InOneIsland (end one is_one) x) new.0 island)
          by (inr new) (inr way) = ends-apart (new-tie way) way.start (inl (holder-able (sym new.1) (one_alone held right new.2)))

    -- so what the first takes the second takes
    taken-too : (u : Name) (held : Right) (v : Name) → are_taken one u held v ≡ true → are_taken other u held v ≡ true
    taken-too u held v taken = true_from_ne_false (are_taken other u held v) (λ stays. put-back u held v (kept_by stays) there (needed (taken-at g kept one is_one.least_cut.held u held v taken)))
      where
        old : g.holds u held v ≡ true
        old = held-taken g kept one is_one.least_cut.held u held v taken

        there : IsTrue (has_vertex g u) × IsTrue (has_vertex g v)
        there = well.ends u held v old

        kept_by : are_taken other u held v ≡ false → (end other is_other).holds u held v ≡ true
        kept_by stays = (after-removes g other (held-removes g kept other is_other.least_cut.held)).holds u held v ∙ and_from (g.holds u held v) (not (are_taken other u held v)) old (ap not stays)

        needed : (k : ℕ) × (s : Rights) × (slice_get one k ≡ Some (Remove u v s)) × (member s held ≡ true) → HeldInIsland (with_rights (end one is_one) u v (only held)) right x y
        needed (k, s, at, m) =
            let put_well = back-well (end one is_one) u v (only held) (end-well one is_one) (end-there one is_one u there.0) (end-there one is_one v there.1) in
            can-held (with_rights (end one is_one) u v (only held)) right y put_well (end-small one is_one) shared_exactly (end-there one is_one y y_there) x (end-there one is_one x x_there) (is_one.needed k u v s held at m)

-- ---- lists that take the same are the same
-- a rule takes something, and from a named set
abbrev TakesSome : Rule → Type 0
TakesSome (Take x y z s) = ⊥
TakesSome (Grant x y z s) = ⊥
TakesSome (Create x n s) = ⊥
TakesSome (Remove u v s) = (is_empty_set s ≡ false) × IsNamed s

some-taken : (g : ProtectionGraph) (kept : List Ends) (cut : List Rule) → AllByRecursion (TakesHeld g kept) cut → AllByRecursion TakesSome cut
some-taken g kept [] held = tt
some-taken g kept (rule ∷ cut) held = let h = held.0 in (subst TakesSome (sym h.is) (h.some, h.named), some-taken g kept cut held.1)

-- nothing is taken from an edge that comes before all others
before-all : (rules : List Rule) (e : Ends) → AllByRecursion (ComesFirst e) (edges_of rules) → (right : Right) → are_taken rules e.source right e.target ≡ false
before-all [] e before right = refl
before-all (Take x y z s ∷ rules) e before right = before-all rules e before right
before-all (Grant x y z s ∷ rules) e before right = before-all rules e before right
before-all (Create x n s ∷ rules) e before right = before-all rules e before right
before-all (Remove u v s ∷ rules) e before right =
    or_from (same_name e.source u && same_name e.target v && member s right) (are_taken rules e.source right e.target)
    (false_from_ne_true (same_name e.source u && same_name e.target v && member s right) (λ here. (
    let p = and_parts (same_name e.source u && same_name e.target v) (member s right) here in
    let q = and_parts (same_name e.source u) (same_name e.target v) p.0 in
    first-itself e (record { source = u; target = v }) before.0 (same_bytes e.source u q.0) (same_bytes e.target v q.1)
    )))
    (before-all rules e before.1 right)

-- what is taken is taken from the first edge, or from one that comes after it
taken-from : (rules : List Rule) (f : Ends) → AllByRecursion (ComesFirst f) (edges_of rules) → (u : Name) (right : Right) (v : Name) → are_taken rules u right v ≡ true → ComesFirst f (record { source = u; target = v })
taken-from [] f before u right v h = absurd (false≢true h)
taken-from (Take x y z s ∷ rules) f before u right v h = taken-from rules f before u right v h
taken-from (Grant x y z s ∷ rules) f before u right v h = taken-from rules f before u right v h
taken-from (Create x n s ∷ rules) f before u right v h = taken-from rules f before u right v h
taken-from (Remove a b s ∷ rules) f before u right v h = by (or_cases (same_name u a && same_name v b && member s right) (are_taken rules u right v) h) (taken-from rules f before.1 u right v)
  where
    by : ((same_name u a && same_name v b && member s right) ≡ true) ⊎ (are_taken rules u right v ≡ true) → (are_taken rules u right v ≡ true → ComesFirst f (record { source = u; target = v })) → ComesFirst f (record { source = u; target = v })
    by (inr later) rest = rest later
    by (inl here) rest =
        let p = and_parts (same_name u a && same_name v b) (member s right) here in
        let q = and_parts (same_name u a) (same_name v b) p.0 in
        subst (ComesFirst f) (λ i. record { source = sym (same_bytes u a q.0) i; target = sym (same_bytes v b q.1) i }) before.0

-- the rest of two lists that begin with the same rule, and take the same, does so too
module _ (u v : Name) (s : Rights) (xs ys : List Rule) (before_xs : AllByRecursion (ComesFirst (record { source = u; target = v })) (edges_of xs)) (before_ys : AllByRecursion (ComesFirst (record { source = u; target = v })) (edges_of ys)) where
  rest-same : (a : Name) (right : Right) (b : Name) → ((same_name a u && same_name b v && member s right) || are_taken xs a right b) ≡ ((same_name a u && same_name b v && member s right) || are_taken ys a right b) → are_taken xs a right b ≡ are_taken ys a right b
  rest-same a right b same = by (cases_Bool (same_name a u && same_name b v))
    where
      by : ((same_name a u && same_name b v) ≡ true) ⊎ ((same_name a u && same_name b v) ≡ false) → are_taken xs a right b ≡ are_taken ys a right b
      by (inl is) =
          let q = and_parts (same_name a u) (same_name b v) is in
          let none_xs : are_taken xs a right b ≡ false = (λ i. are_taken xs (same_bytes a u q.0 i) right (same_bytes b v q.1 i)) ∙ before-all xs (record { source = u; target = v }) before_xs right in
          let none_ys : are_taken ys a right b ≡ false = (λ i. are_taken ys (same_bytes a u q.0 i) right (same_bytes b v q.1 i)) ∙ before-all ys (record { source = u; target = v }) before_ys right in
          none_xs ∙ sym none_ys
      by (inr other) = sym (ap (λ c. (c && member s right) || are_taken xs a right b) other) ∙ same ∙ ap (λ c. (c && member s right) || are_taken ys a right b) other

-- the first of two lists that take the same
module _ (a b : Name) (s : Rights) (c d : Name) (t : Rights) (xs ys : List Rule) (before_xs : AllByRecursion (ComesFirst (record { source = a; target = b })) (edges_of xs)) (before_ys : AllByRecursion (ComesFirst (record { source = c; target = d })) (edges_of ys)) (same : (u : Name) (right : Right) (v : Name) → are_taken (Remove a b s ∷ xs) u right v ≡ are_taken (Remove c d t ∷ ys) u right v) where
  own : (right : Right) → member s right ≡ true → are_taken (Remove a b s ∷ xs) a right b ≡ true
  own right m = or_left (same_name a a && same_name b b && member s right) (are_taken xs a right b) (and_from (same_name a a && same_name b b) (member s right) (and_from (same_name a a) (same_name b b) (same_refl a) (same_refl b)) m)

  -- the first edge of the first list is that of the second, or comes after it
  not-before : (is_empty_set s ≡ false) × IsNamed s → ((a ≡ c) × (b ≡ d)) ⊎ ComesFirst (record { source = c; target = d }) (record { source = a; target = b })
  not-before some = let m = some_member s some.1 some.0 in by m.0 (or_cases (same_name a c && same_name b d && member t m.0) (are_taken ys a m.0 b) (sym (same a m.0 b) ∙ own m.0 m.1))
    where
      by : (right : Right) → ((same_name a c && same_name b d && member t right) ≡ true) ⊎ (are_taken ys a right b ≡ true) → ((a ≡ c) × (b ≡ d)) ⊎ ComesFirst (record { source = c; target = d }) (record { source = a; target = b })
      by right (inl here) =
          let p = and_parts (same_name a c && same_name b d) (member t right) here in
          let q = and_parts (same_name a c) (same_name b d) p.0 in
          inl (same_bytes a c q.0, same_bytes b d q.1)
      by right (inr later) = inr (taken-from ys (record { source = c; target = d }) before_ys a right b later)

  -- with the same first edge the same rights
  first-member : a ≡ c → b ≡ d → (right : Right) → member s right ≡ true → member t right ≡ true
  first-member p q right m = by (or_cases (same_name a c && same_name b d && member t right) (are_taken ys a right b) (sym (same a right b) ∙ own right m))
    where
      none : are_taken ys a right b ≡ false
      none = (λ i. are_taken ys (p i) right (q i)) ∙ before-all ys (record { source = c; target = d }) before_ys right

      by : ((same_name a c && same_name b d && member t right) ≡ true) ⊎ (are_taken ys a right b ≡ true) → member t right ≡ true
      by (inl here) = (and_parts (same_name a c && same_name b d) (member t right) here).1
      by (inr later) = absurd (both_ways (are_taken ys a right b) none later)

alike : (a b : Bool) → (a ≡ true → b ≡ true) → (b ≡ true → a ≡ true) → a ≡ b
alike true b f g = sym (f refl)
alike false true f g = g refl
alike false false f g = refl

not-none : (u v : Name) (s : Rights) (rules : List Rule) → (is_empty_set s ≡ false) × IsNamed s → ((a : Name) (right : Right) (b : Name) → are_taken (Remove u v s ∷ rules) a right b ≡ false) → ⊥
not-none u v s rules some none =
    let m = some_member s some.1 some.0 in
    both_ways (are_taken (Remove u v s ∷ rules) u m.0 v) (none u m.0 v) (or_left (same_name u u && same_name v v && member s m.0) (are_taken rules u m.0 v) (and_from (same_name u u && same_name v v) (member s m.0) (and_from (same_name u u) (same_name v v) (same_refl u) (same_refl v)) m.1))

same-rules : (xs ys : List Rule) → AllByRecursion TakesSome xs → AllByRecursion TakesSome ys → AreInOrder (edges_of xs) → AreInOrder (edges_of ys) → ((u : Name) (right : Right) (v : Name) → are_taken xs u right v ≡ are_taken ys u right v) → xs ≡ ys
same-rules [] [] some_xs some_ys order_xs order_ys same = refl
same-rules [] (Take x y z s ∷ ys) some_xs some_ys order_xs order_ys same = absurd some_ys.0
same-rules [] (Grant x y z s ∷ ys) some_xs some_ys order_xs order_ys same = absurd some_ys.0
same-rules [] (Create x n s ∷ ys) some_xs some_ys order_xs order_ys same = absurd some_ys.0
same-rules [] (Remove u v s ∷ ys) some_xs some_ys order_xs order_ys same = absurd (not-none u v s ys some_ys.0 (λ a right b. sym (same a right b)))
same-rules (Take x y z s ∷ xs) ys some_xs some_ys order_xs order_ys same = absurd some_xs.0
same-rules (Grant x y z s ∷ xs) ys some_xs some_ys order_xs order_ys same = absurd some_xs.0
same-rules (Create x n s ∷ xs) ys some_xs some_ys order_xs order_ys same = absurd some_xs.0
same-rules (Remove u v s ∷ xs) [] some_xs some_ys order_xs order_ys same = absurd (not-none u v s xs some_xs.0 same)
same-rules (Remove u v s ∷ xs) (Take x y z t ∷ ys) some_xs some_ys order_xs order_ys same = absurd some_ys.0
same-rules (Remove u v s ∷ xs) (Grant x y z t ∷ ys) some_xs some_ys order_xs order_ys same = absurd some_ys.0
same-rules (Remove u v s ∷ xs) (Create x n t ∷ ys) some_xs some_ys order_xs order_ys same = absurd some_ys.0
same-rules (Remove a b s ∷ xs) (Remove c d t ∷ ys) some_xs some_ys order_xs order_ys same = by (not-before a b s c d t xs ys order_xs.0 order_ys.0 same some_xs.0) (not-before c d t a b s ys xs order_ys.0 order_xs.0 (λ u right v. sym (same u right v)) some_ys.0) (same-rules xs ys some_xs.1 some_ys.1 order_xs.1 order_ys.1)
  where
    joined : a ≡ c → b ≡ d → (((u : Name) (right : Right) (v : Name) → are_taken xs u right v ≡ are_taken ys u right v) → xs ≡ ys) → Remove a b s ∷ xs ≡ Remove c d t ∷ ys
    joined p q rest =
        let rights : s ≡ t = same_set s t (λ right. alike (member s right) (member t right) (first-member a b s c d t xs ys order_xs.0 order_ys.0 same p q right) (first-member c d t a b s ys xs order_ys.0 order_xs.0 (λ u held v. sym (same u held v)) (sym p) (sym q) right)) some_xs.0.1 some_ys.0.1 in
        let first : Remove a b s ≡ Remove c d t = (λ i. Remove (p i) (q i) (rights i)) in
        let ends : ◌≡◌ {A = Ends} (record { source = c; target = d }) (record { source = a; target = b }) = (λ i. record { source = sym p i; target = sym q i }) in
        let before_ys = subst (λ (e : Ends). AllByRecursion (ComesFirst e) (edges_of ys)) ends order_ys.0 in
        let same_rest = λ (u : Name) (right : Right) (v : Name). rest-same a b s xs ys order_xs.0 before_ys u right v (same u right v ∙ sym (λ i. takes (first i) u right v || are_taken ys u right v)) in
        (λ i. first i ∷ rest same_rest i)

    by : ((a ≡ c) × (b ≡ d)) ⊎ ComesFirst (record { source = c; target = d }) (record { source = a; target = b }) → ((c ≡ a) × (d ≡ b)) ⊎ ComesFirst (record { source = a; target = b }) (record { source = c; target = d }) → (((u : Name) (right : Right) (v : Name) → are_taken xs u right v ≡ are_taken ys u right v) → xs ≡ ys) → Remove a b s ∷ xs ≡ Remove c d t ∷ ys
    by (inl is) other rest = joined is.0 is.1 rest
    by (inr after) (inl is) rest = joined (sym is.0) (sym is.1) rest
    by (inr after) (inr before) rest = absurd (first-both (record { source = c; target = d }) (record { source = a; target = b }) after before)

pub one-cut : ThereIsOneCut
one-cut g right x y kept one other well small x_there y_there is_one is_other =
    same-rules one other (some-taken g kept one is_one.least_cut.held) (some-taken g kept other is_other.least_cut.held) is_one.least_cut.order is_other.least_cut.order
    (λ u held v. alike (are_taken one u held v) (are_taken other u held v) (taken-too g right x y kept well small x_there y_there one other is_one is_other u held v) (taken-too g right x y kept well small x_there y_there other one is_other is_one u held v))
