-- Who is not free can after the rules of a cut; and so can whoever can after another least cut.
use Rattle.std.proofs.Common.{◌≡◌, ℕ, ◌≤◌, ◌<◌, ◌^◌, ◌⊎◌, inl, inr, Bool, true, false, not, ◌&&◌, ◌||◌, List, [], ◌∷◌, length, slice_get, Some, sym, ap, subst, ◌∙◌, IsTrue, arith}
use Rattle.std.proofs.lemmas.Bool.{true≢false, false≢true, both_ways, or_cases, or_left, or_right, and_parts, and_from, not-true, not-false, false_from_ne_true, cases_Bool}
use Rattle.std.proofs.lemmas.Option.{same_Some}
use Rattle.tg_flow.specs.declared.edges.FlowEdge.{FlowEdge}
use Rattle.tg_flow.specs.declared.edges.Role.{Role}
use Rattle.tg_flow.specs.declared.edges.Role.TheVariants.{Link, End, Both}
use Rattle.tg_flow.specs.declared.edges.Side.{Side}
use Rattle.tg_flow.specs.declared.edges.Side.TheVariants.{Source, Target}
use Rattle.tg_flow.specs.declared.courses.Course.TheVariants.{Beyond}
use Rattle.tg_flow.specs.Edges.{opposite, at_side}
use Rattle.tg_flow.specs.Courses.{is_holder, can_link, leads_beyond, IsWhole}
use Rattle.tg_flow.specs.Sides.{AreBeyond}
use Rattle.tg_flow.specs.Cuts.{AreFewest}
use Rattle.tg_flow.proofs.Leading.{leads-more, holder-leads, link-leads}
use Rattle.tg_names.specs.declared.right_sets.Right.{Right}
use Rattle.tg_names.specs.declared.right_sets.Right.TheVariants.{T, G}
use Rattle.tg_graph.specs.declared.rules.Rule.{Rule}
use Rattle.tg_names.specs.Sets.{member}
use Rattle.tg_names.specs.Names.{Name, same_name}
use Rattle.tg_graph.specs.Graphs.{ProtectionGraph, has_vertex, WellFormed}
use Rattle.tg_graph.specs.RuleLists.{after_all}
use Rattle.tg_rows.proofs.Rows.{same_bytes}
use Rattle.tg_cuts.specs.declared.kept.Ends.{Ends}
use Rattle.tg_islands.specs.Moves.{take_and_grant}
use Rattle.tg_islands.specs.Sharing.{linked, IsChain, HeldInIsland, SharedExactly}
use Rattle.tg_cuts.specs.Cuts.{Loses, edges_of, IsNearest}
use Rattle.tg_cuts.specs.CutParts.{role_by, differ, AreLosses}
use Rattle.tg_islands.proofs.NameTests.{same_refl}
use Rattle.tg_islands.proofs.OneIsland.{linked_sym}
use Rattle.tg_cuts.proofs.Able.{able, held-able, able-holds, able-link, able-can, can-held}
use Rattle.tg_cuts.proofs.Removed.{removes-lose, loses-vertex, loses-well}
use Rattle.tg_cuts.proofs.FlowEdges.{role_between, AreEdgesOf}
use Rattle.tg_cuts.proofs.Bounds.{role-facts, ties-linked, near-unable}
use Rattle.tg_cuts.proofs.Sides.{link-ties, ties-held, linked-held, role-there, lost-cases, loss-removes, other-stays}

-- ---- what a role says
-- the source of an edge to the end holds the right
holder-ends : (l e : Bool) (role : Role) → role_by l e ≡ Some role → is_holder role Source ≡ true → e ≡ true
holder-ends l e Link is holds = absurd (false≢true holds)
holder-ends l e End is holds = role-facts l e End is
holder-ends l e Both is holds = (role-facts l e Both is).1

ends-holder : (l e : Bool) (role : Role) → role_by l e ≡ Some role → e ≡ true → is_holder role Source ≡ true
ends-holder true true role is h = ap (λ (r : Role). is_holder r Source) (sym (same_Some Both role is))
ends-holder false true role is h = ap (λ (r : Role). is_holder r Source) (sym (same_Some End role is))
ends-holder l false role is h = absurd (false≢true h)

target-holds-not : (role : Role) → is_holder role Target ≡ true → ⊥
target-holds-not Link h = false≢true h
target-holds-not End h = false≢true h
target-holds-not Both h = false≢true h

linking-ties : (l e : Bool) (role : Role) → role_by l e ≡ Some role → can_link role ≡ true → l ≡ true
linking-ties l e Link is links = role-facts l e Link is
linking-ties l e End is links = absurd (false≢true links)
linking-ties l e Both is links = (role-facts l e Both is).0

ties-linking : (l e : Bool) (role : Role) → role_by l e ≡ Some role → l ≡ true → can_link role ≡ true
ties-linking true true role is h = ap can_link (sym (same_Some Both role is))
ties-linking true false role is h = ap can_link (sym (same_Some Link role is))
ties-linking false e role is h = absurd (false≢true h)

no_differ : (a b : Bool) → a ≡ false → b ≡ false → differ a b ≡ true → ⊥
no_differ false false p q h = false≢true h
no_differ true b p q h = true≢false p
no_differ false true p q h = true≢false q

module _ (g : ProtectionGraph) (right : Right) (x y : Name) (kept : List Ends) (name : ℕ → Name) (edges : List FlowEdge) (are : AreEdgesOf g right y kept name edges) (near others : ℕ → Bool) (j : ℕ) (at_y : (k : ℕ) (e : FlowEdge) → slice_get edges k ≡ Some e → name e.target ≡ y → e.target ≡ j) (are_beyond : AreBeyond edges (not (member take_and_grant right && near j)) near others) (apart : (v : ℕ) → near v ≡ true → others v ≡ false) (free : Name → Bool) (placed : (k : ℕ) (e : FlowEdge) → slice_get edges k ≡ Some e → (free (name e.source) ≡ not (others e.source)) × (free (name e.target) ≡ not (others e.target))) where
  abbrev pub has_holders : Bool
  has_holders = not (member take_and_grant right && near j)

  far : (v : ℕ) → others v ≡ true → near v ≡ false
  far v is = false_from_ne_true (near v) (λ h. both_ways (others v) (apart v h) is)

  source-kept : (k : ℕ) (e : FlowEdge) → slice_get edges k ≡ Some e → others e.source ≡ true → free (name e.source) ≡ false
  source-kept k e at is = (placed k e at).0 ∙ ap not is

  target-kept : (k : ℕ) (e : FlowEdge) → slice_get edges k ≡ Some e → others e.target ≡ true → free (name e.target) ≡ false
  target-kept k e at is = (placed k e at).1 ∙ ap not is

  source-others : (k : ℕ) (e : FlowEdge) → slice_get edges k ≡ Some e → free (name e.source) ≡ false → others e.source ≡ true
  source-others k e at is = not-false (others e.source) (sym (placed k e at).0 ∙ is)

  target-others : (k : ℕ) (e : FlowEdge) → slice_get edges k ≡ Some e → free (name e.target) ≡ false → others e.target ≡ true
  target-others k e at is = not-false (others e.target) (sym (placed k e at).1 ∙ is)

  module _ (rules : List Rule) (losses : AreLosses g right y free rules) (well : WellFormed (after_all g rules)) (there : (v : Name) → IsTrue (has_vertex g v) → IsTrue (has_vertex (after_all g rules) v)) where
    -- those beyond who can after the rules
    abbrev still : ℕ → Bool
    still a = others a && able (after_all g rules) right y (name a)

    -- a link between two who are not free stays
    link-stays : (k : ℕ) (e : FlowEdge) → slice_get edges k ≡ Some e → can_link e.role ≡ true → others e.source ≡ true → others e.target ≡ true → linked (after_all g rules) (name e.source) (name e.target) ≡ true
    link-stays k e at links source target = by (ties-held g (name e.source) (name e.target) (linking-ties (g.holds (name e.source) T (name e.target) || g.holds (name e.source) G (name e.target)) (same_name (name e.target) y && g.holds (name e.source) right (name e.target)) e.role (are.from k e at).serves links))
      where
        by : (held : Right) × (member take_and_grant held ≡ true) × (g.holds (name e.source) held (name e.target) ≡ true) → linked (after_all g rules) (name e.source) (name e.target) ≡ true
        by (held, m, has) = ties-linked (after_all g rules) (name e.source) (name e.target) (link-ties (after_all g rules) (name e.source) held (name e.target) m (other-stays g right y free rules losses (name e.source) held (name e.target) has (λ lost. stays (lost-cases right y free (name e.source) (name e.target) held lost))))
          where
            stays : ((free (name e.source) ≡ true) × (name e.target ≡ y) × (right ≡ held)) ⊎ ((differ (free (name e.source)) (free (name e.target)) ≡ true) × (member take_and_grant held ≡ true)) → ⊥
            stays (inl p) = true≢false (sym p.0 ∙ source-kept k e at source)
            stays (inr p) = no_differ (free (name e.source)) (free (name e.target)) (source-kept k e at source) (target-kept k e at target) p.0

    -- a holder that is not free stays one
    holder-stays : (k : ℕ) (e : FlowEdge) → slice_get edges k ≡ Some e → has_holders ≡ true → is_holder e.role Source ≡ true → others e.source ≡ true → able (after_all g rules) right y (name e.source) ≡ true
    holder-stays k e at counts holds source = able-holds (after_all g rules) right y (name e.source) (other-stays g right y free rules losses (name e.source) right y has (λ lost. stays (lost-cases right y free (name e.source) y right lost)))
      where
        ends : (same_name (name e.target) y && g.holds (name e.source) right (name e.target)) ≡ true
        ends = holder-ends (g.holds (name e.source) T (name e.target) || g.holds (name e.source) G (name e.target)) (same_name (name e.target) y && g.holds (name e.source) right (name e.target)) e.role (are.from k e at).serves holds

        to_y : name e.target ≡ y
        to_y = same_bytes (name e.target) y (and_parts (same_name (name e.target) y) (g.holds (name e.source) right (name e.target)) ends).0

        has : g.holds (name e.source) right y ≡ true
        has = subst (λ (w : Name). g.holds (name e.source) right w ≡ true) to_y (and_parts (same_name (name e.target) y) (g.holds (name e.source) right (name e.target)) ends).1

        -- where the right is a link, y is beyond as well
        y-kept : member take_and_grant right ≡ true → free y ≡ false
        y-kept m =
            let y_far : near j ≡ false = not-true (near j) (sym (ap (λ b. not (b && near j)) m) ∙ counts) in
            let target_far : near e.target ≡ false = ap near (at_y k e at to_y) ∙ y_far in
            let tie : (g.holds (name e.source) T (name e.target) || g.holds (name e.source) G (name e.target)) ≡ true = link-ties g (name e.source) right (name e.target) m (subst (λ (w : Name). g.holds (name e.source) right w ≡ true) (sym to_y) has) in
            let links = ties-linking (g.holds (name e.source) T (name e.target) || g.holds (name e.source) G (name e.target)) (same_name (name e.target) y && g.holds (name e.source) right (name e.target)) e.role (are.from k e at).serves tie in
            let target = are_beyond.whole k e Target at (link-leads has_holders (near e.target) (near e.source) (others e.source) e.role Target target_far (far e.source source) links source) in
            sym (ap free to_y) ∙ target-kept k e at target

        stays : ((free (name e.source) ≡ true) × (y ≡ y) × (right ≡ right)) ⊎ ((differ (free (name e.source)) (free y) ≡ true) × (member take_and_grant right ≡ true)) → ⊥
        stays (inl p) = true≢false (sym p.0 ∙ source-kept k e at source)
        stays (inr p) = no_differ (free (name e.source)) (free y) (source-kept k e at source) (y-kept p.1) p.0

    still-whole : IsWhole (Beyond has_holders) near still edges
    still-whole k e here at lead = by here lead
      where
        beyond : (here : Side) → leads_beyond has_holders (near (at_side e here)) (near (at_side e (opposite here))) (still (at_side e (opposite here))) e.role here ≡ true → others (at_side e here) ≡ true
        beyond here lead = are_beyond.whole k e here at (leads-more has_holders (near (at_side e here)) (near (at_side e (opposite here))) (still (at_side e (opposite here))) (others (at_side e (opposite here))) e.role here (λ s. (and_parts (others (at_side e (opposite here))) (able (after_all g rules) right y (name (at_side e (opposite here)))) s).0) lead)

        cases : (here : Side) → leads_beyond has_holders (near (at_side e here)) (near (at_side e (opposite here))) (still (at_side e (opposite here))) e.role here ≡ true → ((has_holders && is_holder e.role here) ≡ true) ⊎ ((can_link e.role && (not (near (at_side e (opposite here))) && still (at_side e (opposite here)))) ≡ true)
        cases here lead = or_cases (has_holders && is_holder e.role here) (can_link e.role && (not (near (at_side e (opposite here))) && still (at_side e (opposite here)))) (and_parts (not (near (at_side e here))) ((has_holders && is_holder e.role here) || (can_link e.role && (not (near (at_side e (opposite here))) && still (at_side e (opposite here))))) lead).1

        -- what a link gives: that it links, and that the other end is one of the set
        other : (here : Side) → (can_link e.role && (not (near (at_side e (opposite here))) && still (at_side e (opposite here)))) ≡ true → (can_link e.role ≡ true) × (others (at_side e (opposite here)) ≡ true) × (able (after_all g rules) right y (name (at_side e (opposite here))) ≡ true)
        other here links =
            let p = and_parts (can_link e.role) (not (near (at_side e (opposite here))) && still (at_side e (opposite here))) links in
            let q = and_parts (not (near (at_side e (opposite here)))) (still (at_side e (opposite here))) p.1 in
            let r = and_parts (others (at_side e (opposite here))) (able (after_all g rules) right y (name (at_side e (opposite here)))) q.1 in
            (p.0, r.0, r.1)

        source_there : IsTrue (has_vertex (after_all g rules) (name e.source))
        source_there = there (name e.source) (are.from k e at).source_there

        target_there : IsTrue (has_vertex (after_all g rules) (name e.target))
        target_there = there (name e.target) (are.from k e at).target_there

        at-source : others e.source ≡ true → ((has_holders && is_holder e.role Source) ≡ true) ⊎ ((can_link e.role && (not (near e.target) && still e.target)) ≡ true) → able (after_all g rules) right y (name e.source) ≡ true
        at-source source (inl h) = let p = and_parts has_holders (is_holder e.role Source) h in holder-stays k e at p.0 p.1 source
        at-source source (inr l) = let o = other Source l in able-link (after_all g rules) right y (name e.source) (name e.target) source_there target_there (link-stays k e at o.0 source o.1) o.2

        at-target : others e.target ≡ true → ((has_holders && is_holder e.role Target) ≡ true) ⊎ ((can_link e.role && (not (near e.source) && still e.source)) ≡ true) → able (after_all g rules) right y (name e.target) ≡ true
        at-target target (inl h) = absurd (target-holds-not e.role (and_parts has_holders (is_holder e.role Target) h).1)
        at-target target (inr l) =
            let o = other Target l in
            able-link (after_all g rules) right y (name e.target) (name e.source) target_there source_there (linked_sym (after_all g rules) (name e.source) (name e.target) (link-stays k e at o.0 o.1 target)) o.2

        by : (here : Side) → leads_beyond has_holders (near (at_side e here)) (near (at_side e (opposite here))) (still (at_side e (opposite here))) e.role here ≡ true → still (at_side e here) ≡ true
        by Source lead = let source = beyond Source lead in and_from (others e.source) (able (after_all g rules) right y (name e.source)) source (at-source source (cases Source lead))
        by Target lead = let target = beyond Target lead in and_from (others e.target) (able (after_all g rules) right y (name e.target)) target (at-target target (cases Target lead))

    -- whoever is beyond can after the rules
    pub beyond-able : (a : ℕ) → others a ≡ true → able (after_all g rules) right y (name a) ≡ true
    beyond-able a is = (and_parts (others a) (able (after_all g rules) right y (name a)) (are_beyond.least still still-whole a is)).1

  -- ---- another graph that has lost rights, in which nobody near can
  module _ (h : ProtectionGraph) (lost : List Ends) (loses : Loses g h lost) (well : WellFormed h) (near_unable : (a : ℕ) → near a ≡ true → able h right y (name a) ≡ false) where
    able-far : (a : ℕ) (v : Name) → name a ≡ v → able h right y v ≡ true → near a ≡ false
    able-far a v is can = false_from_ne_true (near a) (λ close. both_ways (able h right y (name a)) (near_unable a close) (ap (able h right y) is ∙ can))

    holder-beyond : (s : Name) → h.holds s right y ≡ true → free s ≡ false
    holder-beyond s has = by (cases_Bool has_holders)
      where
        old : g.holds s right y ≡ true
        old = loses.fewer s right y has

        ends : (same_name y y && g.holds s right y) ≡ true
        ends = and_from (same_name y y) (g.holds s right y) (same_refl y) old

        role : (role : Role) × (role_by (g.holds s T y || g.holds s G y) (same_name y y && g.holds s right y) ≡ Some role)
        role = role-there (g.holds s T y || g.holds s G y) (same_name y y && g.holds s right y) (or_right (g.holds s T y || g.holds s G y) (same_name y y && g.holds s right y) ends)

        edge : (k : ℕ) × (e : FlowEdge) × (slice_get edges k ≡ Some e) × (name e.source ≡ s) × (name e.target ≡ y)
        edge = are.there s y role.0 role.1

        by : (has_holders ≡ true) ⊎ (has_holders ≡ false) → free s ≡ false
        by (inl counts) = led edge
          where
            led : (k : ℕ) × (e : FlowEdge) × (slice_get edges k ≡ Some e) × (name e.source ≡ s) × (name e.target ≡ y) → free s ≡ false
            led (k, e, at, source, target) =
                let is : role_by (g.holds s T y || g.holds s G y) (same_name y y && g.holds s right y) ≡ Some e.role = sym (λ i. role_between g right y (source i) (target i)) ∙ (are.from k e at).serves in
                let holds = ends-holder (g.holds s T y || g.holds s G y) (same_name y y && g.holds s right y) e.role is ends in
                let others_is = are_beyond.whole k e Source at (holder-leads has_holders (near e.source) (near e.target) (others e.target) e.role Source (able-far e.source s source (able-holds h right y s has)) counts holds) in
                sym (ap free source) ∙ source-kept k e at others_is
        by (inr none) = absurd (near_y edge)
          where
            links : (member take_and_grant right && near j) ≡ true
            links = not-false (member take_and_grant right && near j) none

            near_y : (k : ℕ) × (e : FlowEdge) × (slice_get edges k ≡ Some e) × (name e.source ≡ s) × (name e.target ≡ y) → ⊥
            near_y (k, e, at, source, target) =
                let p = and_parts (member take_and_grant right) (near j) links in
                let ends_there = well.ends s right y has in
                let tie = ties-linked h s y (link-ties h s right y p.0 has) in
                let can : able h right y y ≡ true = able-link h right y y s ends_there.1 ends_there.0 (linked_sym h s y tie) (able-holds h right y s has) in
                let apart_y : near e.target ≡ false = able-far e.target y target can in
                true≢false (sym p.1 ∙ sym (ap near (at_y k e at target)) ∙ apart_y)

    -- to whom one beyond is linked is beyond
    link-beyond : (v w : Name) → linked h v w ≡ true → able h right y v ≡ true → able h right y w ≡ true → free w ≡ false → free v ≡ false
    link-beyond v w link v_can w_can w_kept = by (linked-held h v w link)
      where
        -- the edge from one of the two to the other
        tied : (p q : Name) (held : Right) → member take_and_grant held ≡ true → h.holds p held q ≡ true → (k : ℕ) × (e : FlowEdge) × (slice_get edges k ≡ Some e) × (name e.source ≡ p) × (name e.target ≡ q) × (can_link e.role ≡ true)
        tied p q held m has =
            let tie = link-ties g p held q m (loses.fewer p held q has) in
            let role = role-there (g.holds p T q || g.holds p G q) (same_name q y && g.holds p right q) (or_left (g.holds p T q || g.holds p G q) (same_name q y && g.holds p right q) tie) in
            let o = are.there p q role.0 role.1 in
            let is : role_by (g.holds p T q || g.holds p G q) (same_name q y && g.holds p right q) ≡ Some o.1.role = sym (λ i. role_between g right y (o.3 i) (o.4 i)) ∙ (are.from o.0 o.1 o.2).serves in
            (o.0, o.1, o.2, o.3, o.4, ties-linking (g.holds p T q || g.holds p G q) (same_name q y && g.holds p right q) o.1.role is tie)

        out : (k : ℕ) × (e : FlowEdge) × (slice_get edges k ≡ Some e) × (name e.source ≡ v) × (name e.target ≡ w) × (can_link e.role ≡ true) → free v ≡ false
        out (k, e, at, source, target, links) =
            let target_is = target-others k e at (ap free target ∙ w_kept) in
            let source_is = are_beyond.whole k e Source at (link-leads has_holders (near e.source) (near e.target) (others e.target) e.role Source (able-far e.source v source v_can) (able-far e.target w target w_can) links target_is) in
            sym (ap free source) ∙ source-kept k e at source_is

        back : (k : ℕ) × (e : FlowEdge) × (slice_get edges k ≡ Some e) × (name e.source ≡ w) × (name e.target ≡ v) × (can_link e.role ≡ true) → free v ≡ false
        back (k, e, at, source, target, links) =
            let source_is = source-others k e at (ap free source ∙ w_kept) in
            let target_is = are_beyond.whole k e Target at (link-leads has_holders (near e.target) (near e.source) (others e.source) e.role Target (able-far e.target v target v_can) (able-far e.source w source w_can) links source_is) in
            sym (ap free target) ∙ target-kept k e at target_is

        by : (held : Right) × (member take_and_grant held ≡ true) × ((h.holds v held w ≡ true) ⊎ (h.holds w held v ≡ true)) → free v ≡ false
        by (held, m, inl has) = out (tied v w held m has)
        by (held, m, inr has) = back (tied w v held m has)

    chain-beyond : (ws : List Name) (v s : Name) → IsChain h v ws s → h.holds s right y ≡ true → free v ≡ false
    chain-beyond [] v s chain has = ap free chain.0 ∙ holder-beyond s has
    chain-beyond (w ∷ ws) v s chain has =
        let w_can = held-able h right y w (s, has, (ws, chain.2)) in
        let v_can = held-able h right y v (s, has, (w ∷ ws, chain)) in
        link-beyond v w chain.1 v_can w_can (chain-beyond ws w s chain.2 has)

    pub held-beyond : (v : Name) → HeldInIsland h right v y → free v ≡ false
    held-beyond v held = let island = held.2 in chain-beyond island.0 v held.0 island.1 held.1

-- ---- of all least cuts it takes the right from the fewest
module _ (g : ProtectionGraph) (right : Right) (x y : Name) (kept : List Ends) (name : ℕ → Name) (i j : ℕ) (at_x : name i ≡ x) (edges : List FlowEdge) (are : AreEdgesOf g right y kept name edges) (units : ℕ) (near others : ℕ → Bool) (at_y : (k : ℕ) (e : FlowEdge) → slice_get edges k ≡ Some e → name e.target ≡ y → e.target ≡ j) (are_beyond : AreBeyond edges (not (member take_and_grant right && near j)) near others) (apart : (v : ℕ) → near v ≡ true → others v ≡ false) (fewest : AreFewest edges i units near) (free : Name → Bool) (placed : (k : ℕ) (e : FlowEdge) → slice_get edges k ≡ Some e → (free (name e.source) ≡ not (others e.source)) × (free (name e.target) ≡ not (others e.target))) (stands : (v : Name) → IsTrue (has_vertex g v) → (a : ℕ) × (name a ≡ v) × (free v ≡ not (others a))) (rules : List Rule) (losses : AreLosses g right y free rules) (few : length rules ≤ units) (well : WellFormed g) (small : length g.vertices < 2 ^ 64) (shared : SharedExactly) (x_there : IsTrue (has_vertex g x)) (y_there : IsTrue (has_vertex g y)) where
  loses : Loses g (after_all g rules) (edges_of rules)
  loses = removes-lose g rules (loss-removes g right y free rules losses.each)

  -- whoever is not free can after the rules
  pub kept-able : (v : Name) → IsTrue (has_vertex g v) → free v ≡ false → able (after_all g rules) right y v ≡ true
  kept-able v v_there is =
      let p = stands v v_there in
      let can = beyond-able g right x y kept name edges are near others j at_y are_beyond apart free placed rules losses (loses-well g (after_all g rules) (edges_of rules) loses well) (loses-vertex g (after_all g rules) (edges_of rules) loses) p.0 (not-false (others p.0) (sym p.2 ∙ is)) in
      sym (ap (able (after_all g rules) right y) p.1) ∙ can

  pub is-nearest : IsNearest g right x y kept rules
  is-nearest h lost less keeps count cannot v v_there can =
      let h_well = loses-well g h lost less well in
      let h_small : length h.vertices < 2 ^ 64 = subst (λ (vs : List Name). length vs < 2 ^ 64) (sym less.vertices) small in
      let h_y = loses-vertex g h lost less y y_there in
      let none : able h right y x ≡ false = false_from_ne_true (able h right y x) (λ x_can. cannot (able-can h right y h_well h_small shared h_y x (loses-vertex g h lost less x x_there) x_can)) in
      let unable = near-unable g right x y kept name i at_x edges are h lost less keeps units near fewest none (omega (arith, count, few)) in
      let held = can-held h right y h_well h_small shared h_y v (loses-vertex g h lost less v v_there) can in
      let beyond = held-beyond g right x y kept name edges are near others j at_y are_beyond apart free placed h lost less h_well unable v held in
      let now_small : length (after_all g rules).vertices < 2 ^ 64 = subst (λ (vs : List Name). length vs < 2 ^ 64) (sym loses.vertices) small in
      able-can (after_all g rules) right y (loses-well g (after_all g rules) (edges_of rules) loses well) now_small shared (loses-vertex g (after_all g rules) (edges_of rules) loses y y_there) v (loses-vertex g (after_all g rules) (edges_of rules) loses v v_there) (kept-able v v_there beyond)
