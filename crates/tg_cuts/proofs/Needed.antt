-- With any one of the rights of a cut put back x can.
use Rattle.std.proofs.Common.{◌≡◌, ◌<◌, ◌^◌, ◌⊎◌, inl, inr, Bool, true, false, ◌&&◌, List, [], ◌∷◌, length, refl, sym, ap, subst, ◌∙◌, if◌then◌else◌, IsTrue, arith}
use Rattle.std.specs.List.{list_any}
use Rattle.std.proofs.lemmas.Bool.{true≢false, false≢true, both_ways, or_left, or_right, and_parts, and_from, false_from_ne_true, cases_Bool}
use Rattle.tg_names.specs.declared.right_sets.Right.{Right}
use Rattle.tg_names.specs.declared.right_sets.Rights.{Rights}
use Rattle.tg_graph.specs.declared.rules.Rule.{Rule}
use Rattle.tg_graph.specs.declared.rules.Rule.TheVariants.{Remove}
use Rattle.tg_names.specs.Sets.{member}
use Rattle.tg_names.specs.Names.{Name, same_name}
use Rattle.tg_graph.specs.Graphs.{ProtectionGraph, has_vertex, WellFormed}
use Rattle.tg_graph.specs.Rules.{with_rights}
use Rattle.tg_graph.specs.RuleLists.{after_all, CanShare}
use Rattle.tg_rows.proofs.Rows.{same_bytes}
use Rattle.tg_names.proofs.RightsWords.{one_itself}
use Rattle.tg_cuts.specs.declared.kept.Ends.{Ends}
use Rattle.tg_islands.specs.Moves.{only, take_and_grant}
use Rattle.tg_islands.specs.Sharing.{linked, IsChain, InOneIsland, HeldInIsland, SharedExactly}
use Rattle.tg_cuts.specs.Cuts.{is_one_of, Loses, Keeps, edges_of, IsLeastCut, IsNeeded}
use Rattle.tg_cuts.specs.CutParts.{differ, is_lost, AreLosses, IsLossRule}
use Rattle.tg_islands.proofs.NameTests.{same_refl, edge_cases}
use Rattle.tg_islands.proofs.Counts.{has, without, without_lt, without_keeps}
use Rattle.tg_islands.proofs.OneIsland.{linked_sym, starts, island_refl, island_link, island_trans}
use Rattle.tg_cuts.proofs.Able.{able, able-held, can-held}
use Rattle.tg_cuts.proofs.EdgeOrder.{all-at}
use Rattle.tg_cuts.proofs.Removed.{edge-among, edges-length, removes-lose, loses-vertex, loses-well}
use Rattle.tg_cuts.proofs.Bounds.{ties-linked}
use Rattle.tg_cuts.proofs.Sides.{link-ties, linked-held, lost-cases, loss-of, loss-removes, gone-lost, free-holds, all-free}

-- ---- two graphs that differ on one edge alone
-- a triple of k is one of h, or it goes from u to v
pub record DifferAt (h k : ProtectionGraph) (u v : Name) : Type 0 where
  pub vertices : k.vertices ≡ h.vertices
  pub others : (a : Name) (right : Right) (b : Name) → k.holds a right b ≡ true → (h.holds a right b ≡ true) ⊎ ((a ≡ u) × (b ≡ v))

-- a chain of k from t to w goes over that edge: by a right that links and is none of h. The first time it comes to it over links of h, and after the last it goes on over such.
pub record GoesOver (h k : ProtectionGraph) (u v t w : Name) : Type 0 where
  pub tie : Right
  pub is_tie : member take_and_grant tie ≡ true
  pub held : k.holds u tie v ≡ true
  pub fresh : h.holds u tie v ≡ false
  pub start : InOneIsland h t u ⊎ InOneIsland h t v
  pub finish : InOneIsland h u w ⊎ InOneIsland h v w

module _ (h k : ProtectionGraph) (u v : Name) (differs : DifferAt h k u v) where
  -- a link of k is one of h, or goes over that edge, by a right that h has not there
  pub record IsNew (a b : Name) : Type 0 where
    pub tie : Right
    pub is_tie : member take_and_grant tie ≡ true
    pub held : k.holds u tie v ≡ true
    pub fresh : h.holds u tie v ≡ false
    pub ends : ((a ≡ u) × (b ≡ v)) ⊎ ((a ≡ v) × (b ≡ u))

  new-link : (a b : Name) → linked k a b ≡ true → (linked h a b ≡ true) ⊎ IsNew a b
  new-link a b link = by (linked-held k a b link)
    where
      -- one of its two directions
      from : (p q : Name) (tie : Right) → member take_and_grant tie ≡ true → k.holds p tie q ≡ true → (h.holds p tie q ≡ true) ⊎ ((h.holds p tie q ≡ false) × (p ≡ u) × (q ≡ v))
      from p q tie m held = cases (cases_Bool (h.holds p tie q)) (differs.others p tie q held)
        where
          cases : (h.holds p tie q ≡ true) ⊎ (h.holds p tie q ≡ false) → (h.holds p tie q ≡ true) ⊎ ((p ≡ u) × (q ≡ v)) → (h.holds p tie q ≡ true) ⊎ ((h.holds p tie q ≡ false) × (p ≡ u) × (q ≡ v))
          cases (inl old) other = inl old
          cases (inr none) (inl old) = inl old
          cases (inr none) (inr is) = inr (none, is.0, is.1)

      by : (tie : Right) × (member take_and_grant tie ≡ true) × ((k.holds a tie b ≡ true) ⊎ (k.holds b tie a ≡ true)) → (linked h a b ≡ true) ⊎ IsNew a b
      by (tie, m, inl held) = out (from a b tie m held)
        where
          out : (h.holds a tie b ≡ true) ⊎ ((h.holds a tie b ≡ false) × (a ≡ u) × (b ≡ v)) → (linked h a b ≡ true) ⊎ IsNew a b
          out (inl old) = inl (ties-linked h a b (link-ties h a tie b m old))
          out (inr n) = inr (record { tie = tie; is_tie = m; held = sym (λ i. k.holds (n.1 i) tie (n.2 i)) ∙ held; fresh = sym (λ i. h.holds (n.1 i) tie (n.2 i)) ∙ n.0; ends = inl (n.1, n.2) })
      by (tie, m, inr held) = back (from b a tie m held)
        where
          back : (h.holds b tie a ≡ true) ⊎ ((h.holds b tie a ≡ false) × (b ≡ u) × (a ≡ v)) → (linked h a b ≡ true) ⊎ IsNew a b
          back (inl old) = inl (linked_sym h b a (ties-linked h b a (link-ties h b tie a m old)))
          back (inr n) = inr (record { tie = tie; is_tie = m; held = sym (λ i. k.holds (n.1 i) tie (n.2 i)) ∙ held; fresh = sym (λ i. h.holds (n.1 i) tie (n.2 i)) ∙ n.0; ends = inr (n.2, n.1) })

  there : (a : Name) → IsTrue (has_vertex k a) → IsTrue (has_vertex h a)
  there a k_there = sym (ap (λ (vs : List Name). list_any (same_name a) vs) differs.vertices) ∙ k_there

  pub over-edge : (t : Name) (ws : List Name) (w : Name) → IsChain k t ws w → InOneIsland h t w ⊎ GoesOver h k u v t w
  over-edge t [] w chain = inl (subst (InOneIsland h t) chain.0 (island_refl h t (there t chain.1)))
  over-edge t (s ∷ ss) w chain = by (new-link t s chain.1) (over-edge s ss w chain.2)
    where
      t_there : IsTrue (has_vertex h t)
      t_there = there t chain.0

      s_there : IsTrue (has_vertex h s)
      s_there = there s (starts k s ss w chain.2)

      step : linked h t s ≡ true → (c : Name) → InOneIsland h s c → InOneIsland h t c
      step link c island = island_trans h t s c (island_link h t s t_there s_there link) island

      begin : ((t ≡ u) × (s ≡ v)) ⊎ ((t ≡ v) × (s ≡ u)) → InOneIsland h t u ⊎ InOneIsland h t v
      begin (inl e) = inl (subst (InOneIsland h t) e.0 (island_refl h t t_there))
      begin (inr e) = inr (subst (InOneIsland h t) e.0 (island_refl h t t_there))

      rest : ((t ≡ u) × (s ≡ v)) ⊎ ((t ≡ v) × (s ≡ u)) → InOneIsland h s w → InOneIsland h u w ⊎ InOneIsland h v w
      rest (inl e) island = inr (subst (λ (c : Name). InOneIsland h c w) e.1 island)
      rest (inr e) island = inl (subst (λ (c : Name). InOneIsland h c w) e.1 island)

      start-by : linked h t s ≡ true → InOneIsland h s u ⊎ InOneIsland h s v → InOneIsland h t u ⊎ InOneIsland h t v
      start-by link (inl island) = inl (step link u island)
      start-by link (inr island) = inr (step link v island)

      by : (linked h t s ≡ true) ⊎ IsNew t s → InOneIsland h s w ⊎ GoesOver h k u v s w → InOneIsland h t w ⊎ GoesOver h k u v t w
      by (inl link) (inl island) = inl (step link w island)
      by (inl link) (inr over) = inr (record { tie = over.tie; is_tie = over.is_tie; held = over.held; fresh = over.fresh; start = start-by link over.start; finish = over.finish })
      by (inr n) (inl island) = inr (record { tie = n.tie; is_tie = n.is_tie; held = n.held; fresh = n.fresh; start = begin n.ends; finish = rest n.ends island })
      by (inr n) (inr over) = inr (record { tie = n.tie; is_tie = n.is_tie; held = n.held; fresh = n.fresh; start = begin n.ends; finish = over.finish })

-- ---- the graph with one right put back
pub back-differs : (h : ProtectionGraph) (u v : Name) (s : Rights) → DifferAt h (with_rights h u v s) u v
back-differs h u v s = record { vertices = refl; others = λ a right b held. by a right b (edge_cases h.holds u v s a right b held) }
  where
    by : (a : Name) (right : Right) (b : Name) → (h.holds a right b ≡ true) ⊎ ((a ≡ u) × (b ≡ v) × (member s right ≡ true)) → (h.holds a right b ≡ true) ⊎ ((a ≡ u) × (b ≡ v))
    by a right b (inl old) = inl old
    by a right b (inr new) = inr (new.0, new.1)

module _ (h : ProtectionGraph) (u v : Name) (s : Rights) where
  pub back-old : (a : Name) (right : Right) (b : Name) → h.holds a right b ≡ true → (with_rights h u v s).holds a right b ≡ true
  back-old a right b has = or_left (h.holds a right b) (same_name a u && same_name b v && member s right) has

  pub back-new : (right : Right) → member s right ≡ true → (with_rights h u v s).holds u right v ≡ true
  back-new right m = or_right (h.holds u right v) (same_name u u && same_name v v && member s right) (and_from (same_name u u && same_name v v) (member s right) (and_from (same_name u u) (same_name v v) (same_refl u) (same_refl v)) m)

  -- who is in one island still is
  pub back-linked : (a b : Name) → linked h a b ≡ true → linked (with_rights h u v s) a b ≡ true
  back-linked a b link = by (linked-held h a b link)
    where
      by : (held : Right) × (member take_and_grant held ≡ true) × ((h.holds a held b ≡ true) ⊎ (h.holds b held a ≡ true)) → linked (with_rights h u v s) a b ≡ true
      by (held, m, inl has) = ties-linked (with_rights h u v s) a b (link-ties (with_rights h u v s) a held b m (back-old a held b has))
      by (held, m, inr has) = linked_sym (with_rights h u v s) b a (ties-linked (with_rights h u v s) b a (link-ties (with_rights h u v s) b held a m (back-old b held a has)))

  back-chain : (a : Name) (ws : List Name) (b : Name) → IsChain h a ws b → IsChain (with_rights h u v s) a ws b
  back-chain a [] b chain = chain
  back-chain a (w ∷ ws) b chain = (chain.0, back-linked a w chain.1, back-chain w ws b chain.2)

  pub back-island : (a b : Name) → InOneIsland h a b → InOneIsland (with_rights h u v s) a b
  back-island a b island = (island.0, back-chain a island.0 b island.1)

  pub back-well : WellFormed h → IsTrue (has_vertex h u) → IsTrue (has_vertex h v) → WellFormed (with_rights h u v s)
  back-well well u_there v_there = record { names = well.names; ends = λ a right b held. by a right b (edge_cases h.holds u v s a right b held) }
    where
      by : (a : Name) (right : Right) (b : Name) → (h.holds a right b ≡ true) ⊎ ((a ≡ u) × (b ≡ v) × (member s right ≡ true)) → IsTrue (has_vertex h a) × IsTrue (has_vertex h b)
      by a right b (inl old) = well.ends a right b old
      by a right b (inr new) = (subst (λ (c : Name). IsTrue (has_vertex h c)) (sym new.0) u_there, subst (λ (c : Name). IsTrue (has_vertex h c)) (sym new.1) v_there)

-- ---- the graph in which one edge was left whole
-- the triples of h, and from u to v those of g
abbrev pub left_whole : ProtectionGraph → ProtectionGraph → Name → Name → ProtectionGraph
left_whole g h u v = record { vertices = h.vertices; holds = λ a right b. if same_name a u && same_name b v then g.holds a right b else h.holds a right b }

whole-else : (b : Bool) (p q : Bool) → b ≡ false → (if b then p else q) ≡ q
whole-else true p q h = absurd (true≢false h)
whole-else false p q h = refl

module _ (g h : ProtectionGraph) (u v : Name) where
  pub whole-differs : DifferAt h (left_whole g h u v) u v
  whole-differs = record { vertices = refl; others = λ a right b held. by a right b held (cases_Bool (same_name a u && same_name b v)) }
    where
      by : (a : Name) (right : Right) (b : Name) → (if same_name a u && same_name b v then g.holds a right b else h.holds a right b) ≡ true → ((same_name a u && same_name b v) ≡ true) ⊎ ((same_name a u && same_name b v) ≡ false) → (h.holds a right b ≡ true) ⊎ ((a ≡ u) × (b ≡ v))
      by a right b held (inl is) = let p = and_parts (same_name a u) (same_name b v) is in inr (same_bytes a u p.0, same_bytes b v p.1)
      by a right b held (inr other) = inl (sym (whole-else (same_name a u && same_name b v) (g.holds a right b) (h.holds a right b) other) ∙ held)

  pub whole-edge : (right : Right) → (left_whole g h u v).holds u right v ≡ g.holds u right v
  whole-edge right = ap (λ b. if b then g.holds u right v else h.holds u right v) (and_from (same_name u u) (same_name v v) (same_refl u) (same_refl v))

-- ---- the edges but one
abbrev pub same_edge : Ends → Ends → Bool
same_edge e f = same_name e.source f.source && same_name e.target f.target

pub same_edge-true : (e f : Ends) → same_edge e f ≡ true → e ≡ f
same_edge-true e f is = let p = and_parts (same_name e.source f.source) (same_name e.target f.target) is in (λ i. record { source = same_bytes e.source f.source p.0 i; target = same_bytes e.target f.target p.1 i })

-- rights taken from these edges, but from one of them none
module _ (g h : ProtectionGraph) (edges : List Ends) (loses : Loses g h edges) (u v : Name) where
  abbrev pub one : Ends
  one = record { source = u; target = v }

  abbrev pub but_one : List Ends
  but_one = without same_edge same_edge-true one edges

  pub whole-loses : Loses g (left_whole g h u v) but_one
  whole-loses = record {
    vertices = loses.vertices;
    fewer = λ a right b held. fewer a right b held (cases_Bool (same_name a u && same_name b v));
    others = λ a right b beside. others a right b beside (cases_Bool (same_name a u && same_name b v));
  }
    where
      fewer : (a : Name) (right : Right) (b : Name) → (if same_name a u && same_name b v then g.holds a right b else h.holds a right b) ≡ true → ((same_name a u && same_name b v) ≡ true) ⊎ ((same_name a u && same_name b v) ≡ false) → g.holds a right b ≡ true
      fewer a right b held (inl is) = sym (ap (λ c. if c then g.holds a right b else h.holds a right b) is) ∙ held
      fewer a right b held (inr other) = loses.fewer a right b (sym (ap (λ c. if c then g.holds a right b else h.holds a right b) other) ∙ held)

      others : (a : Name) (right : Right) (b : Name) → is_one_of but_one a b ≡ false → ((same_name a u && same_name b v) ≡ true) ⊎ ((same_name a u && same_name b v) ≡ false) → (if same_name a u && same_name b v then g.holds a right b else h.holds a right b) ≡ g.holds a right b
      others a right b beside (inl is) = ap (λ c. if c then g.holds a right b else h.holds a right b) is
      others a right b beside (inr other) = ap (λ c. if c then g.holds a right b else h.holds a right b) other ∙ loses.others a right b (false_from_ne_true (is_one_of edges a b) (λ among. both_ways (is_one_of but_one a b) beside (without_keeps same_edge same_edge-true one (record { source = a; target = b }) edges (λ is. both_ways (same_name a u && same_name b v) other (and_from (same_name a u) (same_name b v) (ap (λ (e : Ends). same_name e.source u) is ∙ same_refl u) (ap (λ (e : Ends). same_name e.target v) is ∙ same_refl v))) among)))

  pub whole-keeps : (kept : List Ends) → Keeps g h kept → Keeps g (left_whole g h u v) kept
  whole-keeps kept keeps a right b among = by (cases_Bool (same_name a u && same_name b v))
    where
      by : ((same_name a u && same_name b v) ≡ true) ⊎ ((same_name a u && same_name b v) ≡ false) → (if same_name a u && same_name b v then g.holds a right b else h.holds a right b) ≡ g.holds a right b
      by (inl is) = ap (λ c. if c then g.holds a right b else h.holds a right b) is
      by (inr other) = ap (λ c. if c then g.holds a right b else h.holds a right b) other ∙ keeps a right b among

  pub but-one-less : is_one_of edges u v ≡ true → length but_one < length edges
  but-one-less among = without_lt same_edge same_edge-true one edges among

-- ---- each right of a cut has to go
module _ (g : ProtectionGraph) (right : Right) (x y : Name) (kept : List Ends) (free : Name → Bool) (rules : List Rule) (losses : AreLosses g right y free rules) (least : IsLeastCut g right x y kept rules) (keeps : Keeps g (after_all g rules) kept) (x_free : free x ≡ true) (kept_able : (v : Name) → IsTrue (has_vertex g v) → free v ≡ false → able (after_all g rules) right y v ≡ true) (well : WellFormed g) (small : length g.vertices < 2 ^ 64) (shared : SharedExactly) (x_there : IsTrue (has_vertex g x)) (y_there : IsTrue (has_vertex g y)) where
  loses : Loses g (after_all g rules) (edges_of rules)
  loses = removes-lose g rules (loss-removes g right y free rules losses.each)

  now_well : WellFormed (after_all g rules)
  now_well = loses-well g (after_all g rules) (edges_of rules) loses well

  now_there : (v : Name) → IsTrue (has_vertex g v) → IsTrue (has_vertex (after_all g rules) v)
  now_there = loses-vertex g (after_all g rules) (edges_of rules) loses

  -- the end that is in x's island is free
  island-free : (t : Name) → InOneIsland (after_all g rules) x t → free t ≡ true
  island-free t island = all-free g right y free rules losses island.0 x t island.1 x_free

  module _ (u v : Name) (back : Right) (has_back : g.holds u back v ≡ true) (lost_back : is_lost right y free u v back ≡ true) where
    abbrev put : ProtectionGraph
    put = with_rights (after_all g rules) u v (only back)

    ends : IsTrue (has_vertex g u) × IsTrue (has_vertex g v)
    ends = well.ends u back v has_back

    put-link : member take_and_grant back ≡ true → linked put u v ≡ true
    put-link m = ties-linked put u v (link-ties put u back v m (back-new (after_all g rules) u v (only back) back (one_itself back)))

    -- who is not free can still
    still-held : (w : Name) → IsTrue (has_vertex g w) → free w ≡ false → HeldInIsland put right w y
    still-held w w_there is =
        let held = able-held (after_all g rules) right y w (now_there w w_there) (kept_able w w_there is) in
        (held.0, back-old (after_all g rules) u v (only back) held.0 right y held.1, back-island (after_all g rules) u v (only back) w held.0 held.2)

    -- from x's island over the edge to its other end
    over : (a b : Name) → InOneIsland (after_all g rules) x a → IsTrue (has_vertex g a) → IsTrue (has_vertex g b) → linked put a b ≡ true → HeldInIsland put right b y → HeldInIsland put right x y
    over a b island a_there b_there link held = (held.0, held.1, island_trans put x a held.0 (back-island (after_all g rules) u v (only back) x a island) (island_trans put a b held.0 (island_link put a b (now_there a a_there) (now_there b b_there) link) held.2))

    -- by the right itself, from u in x's island
    by-right : v ≡ y → right ≡ back → InOneIsland (after_all g rules) x u → HeldInIsland put right x y
    by-right to_y is island =
        let has : put.holds u right y ≡ true = subst (λ (w : Name). put.holds u right w ≡ true) to_y (subst (λ (r : Right). put.holds u r v ≡ true) (sym is) (back-new (after_all g rules) u v (only back) back (one_itself back))) in
        (u, has, back-island (after_all g rules) u v (only back) x u island)

    other_end : (a b : Bool) → a ≡ true → differ a b ≡ true → b ≡ false
    other_end true true p d = absurd (false≢true d)
    other_end true false p d = refl
    other_end false b p d = absurd (false≢true p)

    first_end : (a b : Bool) → b ≡ true → differ a b ≡ true → a ≡ false
    first_end true true p d = absurd (false≢true d)
    first_end false true p d = refl
    first_end a false p d = absurd (false≢true p)

    same_not : (a b : Bool) → a ≡ true → b ≡ true → differ a b ≡ true → ⊥
    same_not true true p q d = false≢true d
    same_not true false p q d = false≢true q
    same_not false b p q d = false≢true p

    -- where u is in x's island
    from-source : InOneIsland (after_all g rules) x u → HeldInIsland put right x y
    from-source island = by (lost-cases right y free u v back lost_back)
      where
        by : ((free u ≡ true) × (v ≡ y) × (right ≡ back)) ⊎ ((differ (free u) (free v) ≡ true) × (member take_and_grant back ≡ true)) → HeldInIsland put right x y
        by (inl p) = by-right p.1 p.2 island
        by (inr p) = over u v island ends.0 ends.1 (put-link p.1) (still-held v ends.1 (other_end (free u) (free v) (island-free u island) p.0))

    -- where v is, and a link went
    from-target : InOneIsland (after_all g rules) x v → (tie : Right) → member take_and_grant tie ≡ true → is_lost right y free u v tie ≡ true → HeldInIsland put right x y
    from-target island tie m lost_tie = by (lost-cases right y free u v back lost_back) (lost-cases right y free u v tie lost_tie)
      where
        v_free : free v ≡ true
        v_free = island-free v island

        by : ((free u ≡ true) × (v ≡ y) × (right ≡ back)) ⊎ ((differ (free u) (free v) ≡ true) × (member take_and_grant back ≡ true)) → ((free u ≡ true) × (v ≡ y) × (right ≡ tie)) ⊎ ((differ (free u) (free v) ≡ true) × (member take_and_grant tie ≡ true)) → HeldInIsland put right x y
        by (inr p) other = over v u island ends.1 ends.0 (linked_sym put u v (put-link p.1)) (still-held u ends.0 (first_end (free u) (free v) v_free p.0))
        by (inl p) (inr q) = absurd (same_not (free u) (free v) p.0 v_free q.0)
        by (inl p) (inl q) =
            let is_link : member take_and_grant back ≡ true = subst (λ (r : Right). member take_and_grant r ≡ true) (sym q.2 ∙ p.2) m in
            let has : put.holds u right y ≡ true = subst (λ (w : Name). put.holds u right w ≡ true) p.1 (subst (λ (r : Right). put.holds u r v ≡ true) (sym p.2) (back-new (after_all g rules) u v (only back) back (one_itself back))) in
            over v u island ends.1 ends.0 (linked_sym put u v (put-link is_link)) (u, has, island_refl put u (now_there u ends.0))

    -- with the edge left whole x can
    whole-held : is_one_of (edges_of rules) u v ≡ true → HeldInIsland (left_whole g (after_all g rules) u v) right x y
    whole-held among =
        let less = whole-loses g (after_all g rules) (edges_of rules) loses u v in
        let fewer = but-one-less g (after_all g rules) (edges_of rules) loses u v among in
        let count = edges-length rules (loss-removes g right y free rules losses.each) in
        let can = least.least (left_whole g (after_all g rules) u v) (but_one g (after_all g rules) (edges_of rules) loses u v) less (whole-keeps g (after_all g rules) (edges_of rules) loses u v kept keeps) (omega (arith, fewer, count)) in
        let whole_small : length (left_whole g (after_all g rules) u v).vertices < 2 ^ 64 = subst (λ (vs : List Name). length vs < 2 ^ 64) (sym less.vertices) small in
        can-held (left_whole g (after_all g rules) u v) right y (loses-well g (left_whole g (after_all g rules) u v) (but_one g (after_all g rules) (edges_of rules) loses u v) less well) whole_small shared (loses-vertex g (left_whole g (after_all g rules) u v) (but_one g (after_all g rules) (edges_of rules) loses u v) less y y_there) x (loses-vertex g (left_whole g (after_all g rules) u v) (but_one g (after_all g rules) (edges_of rules) loses u v) less x x_there) can

    -- what the whole edge has and the cut one has not had to go
    new-lost : (held : Right) → (left_whole g (after_all g rules) u v).holds u held v ≡ true → (after_all g rules).holds u held v ≡ false → is_lost right y free u v held ≡ true
    new-lost held has gone = gone-lost g right y free rules losses u held v (sym (whole-edge g (after_all g rules) u v held) ∙ has) gone

    back-held : is_one_of (edges_of rules) u v ≡ true → HeldInIsland put right x y
    back-held among = by (whole-held among)
      where
        -- the holder is free, so it holds by the edge
        last : (w : Name) → InOneIsland (after_all g rules) x w → (left_whole g (after_all g rules) u v).holds w right y ≡ true → HeldInIsland put right x y
        last w island has = cases ((whole-differs g (after_all g rules) u v).others w right y has)
          where
            cases : ((after_all g rules).holds w right y ≡ true) ⊎ ((w ≡ u) × (y ≡ v)) → HeldInIsland put right x y
            cases (inl old) = absurd (free-holds g right y free rules losses w (island-free w island) old)
            cases (inr is) = from-source (subst (InOneIsland (after_all g rules) x) is.0 island)

        goes : (w : Name) → GoesOver (after_all g rules) (left_whole g (after_all g rules) u v) u v x w → HeldInIsland put right x y
        goes w way = cases way.start
          where
            cases : InOneIsland (after_all g rules) x u ⊎ InOneIsland (after_all g rules) x v → HeldInIsland put right x y
            cases (inl island) = from-source island
            cases (inr island) = from-target island way.tie way.is_tie (new-lost way.tie way.held way.fresh)

        by : HeldInIsland (left_whole g (after_all g rules) u v) right x y → HeldInIsland put right x y
        by held = let island = held.2 in cases held.0 held.1 (over-edge (after_all g rules) (left_whole g (after_all g rules) u v) u v (whole-differs g (after_all g rules) u v) x island.0 held.0 island.1)
          where
            cases : (w : Name) → (left_whole g (after_all g rules) u v).holds w right y ≡ true → InOneIsland (after_all g rules) x w ⊎ GoesOver (after_all g rules) (left_whole g (after_all g rules) u v) u v x w → HeldInIsland put right x y
            cases w has (inl island) = last w island has
            cases w has (inr way) = goes w way

    back-can : is_one_of (edges_of rules) u v ≡ true → CanShare put right x y
    back-can among = (shared put right x y (back-well (after_all g rules) u v (only back) now_well (now_there u ends.0) (now_there v ends.1)) (subst (λ (vs : List Name). length vs < 2 ^ 64) (sym loses.vertices) small) (now_there x x_there) (now_there y y_there)).1 (back-held among)

  pub is-needed : IsNeeded g right x y rules
  is-needed k u v s back at m =
      let one = loss-of g right y free u v s (all-at (IsLossRule g right y free) rules losses.each k (Remove u v s) at) in
      let p = and_parts (g.holds u back v) (is_lost right y free u v back) (sym (one.members back) ∙ m) in
      back-can u v back p.0 p.1 (edge-among rules k u v s at)
