-- The rules of a cut: they take from no more edges than units have gone, and after them no free vertex can.
use Rattle.std.proofs.Common.{◌≡◌, ℕ, ◌≤◌, ◌<◌, ◌^◌, ◌⊎◌, inl, inr, Bool, true, false, not, ◌&&◌, ◌||◌, List, [], ◌∷◌, length, slice_get, Some, refl, sym, ap, subst, ◌∙◌, IsTrue, arith}
use Rattle.std.specs.Prelude.{count_by}
use Rattle.std.specs.List.{AllByRecursion}
use Rattle.std.proofs.lemmas.Bool.{false≢true, both_ways, or_cases, or_left, or_right, and_parts, and_from, true_from_ne_false, false_from_ne_true}
use Rattle.std.proofs.lemmas.Option.{same_Some}
use Rattle.tg_flow.specs.declared.edges.FlowEdge.{FlowEdge}
use Rattle.tg_flow.specs.declared.edges.Role.{Role}
use Rattle.tg_flow.specs.declared.edges.Role.TheVariants.{Link, End, Both}
use Rattle.tg_flow.specs.Flows.{crosses, crosses_by}
use Rattle.tg_flow.specs.Cuts.{AreFewest, AreParted}
use Rattle.tg_flow.proofs.Tallies.{count-one, count-all, count-back}
use Rattle.tg_names.specs.declared.right_sets.Right.{Right}
use Rattle.tg_names.specs.declared.right_sets.Right.TheVariants.{T, G}
use Rattle.tg_names.specs.declared.right_sets.Rights.{Rights}
use Rattle.tg_graph.specs.declared.rules.Rule.{Rule}
use Rattle.tg_graph.specs.declared.rules.Rule.TheVariants.{Take, Grant, Create, Remove}
use Rattle.tg_names.specs.Sets.{member, is_empty_set, IsNamed}
use Rattle.tg_names.specs.Names.{Name, same_name}
use Rattle.tg_graph.specs.Graphs.{ProtectionGraph, has_vertex, WellFormed}
use Rattle.tg_graph.specs.RuleLists.{after_all}
use Rattle.tg_rows.proofs.Rows.{same_bytes}
use Rattle.tg_names.proofs.RightsWords.{one_itself, one_alone}
use Rattle.tg_cuts.specs.declared.kept.Ends.{Ends}
use Rattle.tg_islands.specs.Moves.{only, take_and_grant}
use Rattle.tg_islands.specs.Sharing.{linked, IsChain, HeldInIsland, SharedExactly}
use Rattle.tg_cuts.specs.Cuts.{is_one_of, Loses, TakesHeld, edges_of, IsLeastCut}
use Rattle.tg_cuts.specs.CutParts.{role_by, differ, is_lost, are_taken, IsLossRule, AreLosses}
use Rattle.tg_islands.proofs.NameTests.{same_refl}
use Rattle.tg_cuts.proofs.Able.{able, able-can, can-held}
use Rattle.tg_cuts.proofs.EdgeOrder.{all-map, all-at, order-one, edges-each}
use Rattle.tg_cuts.proofs.Removed.{IsRemove, is-remove, same_remove, some_member, AfterRemoves, after-removes, edges-length, removes-lose, loses-vertex, loses-well}
use Rattle.tg_cuts.proofs.FlowEdges.{role_between, AreEdgesOf}
use Rattle.tg_cuts.proofs.Bounds.{units-lost}

-- ---- rights
link_right : (held : Right) → member take_and_grant held ≡ true → (held ≡ T) ⊎ (held ≡ G)
link_right T m = inl refl
link_right G m = inr refl
link_right held m = absurd (false≢true m)

-- a right that links makes a tie
pub link-ties : (g : ProtectionGraph) (u : Name) (held : Right) (v : Name) → member take_and_grant held ≡ true → g.holds u held v ≡ true → (g.holds u T v || g.holds u G v) ≡ true
link-ties g u held v m has = by (link_right held m)
  where
    by : (held ≡ T) ⊎ (held ≡ G) → (g.holds u T v || g.holds u G v) ≡ true
    by (inl is) = or_left (g.holds u T v) (g.holds u G v) (subst (λ (r : Right). g.holds u r v ≡ true) is has)
    by (inr is) = or_right (g.holds u T v) (g.holds u G v) (subst (λ (r : Right). g.holds u r v ≡ true) is has)

-- a tie is made by one
pub ties-held : (g : ProtectionGraph) (u v : Name) → (g.holds u T v || g.holds u G v) ≡ true → (held : Right) × (member take_and_grant held ≡ true) × (g.holds u held v ≡ true)
ties-held g u v ties = by (or_cases (g.holds u T v) (g.holds u G v) ties)
  where
    by : (g.holds u T v ≡ true) ⊎ (g.holds u G v ≡ true) → (held : Right) × (member take_and_grant held ≡ true) × (g.holds u held v ≡ true)
    by (inl has) = (T, refl, has)
    by (inr has) = (G, refl, has)

-- and a link by one, of either end over the other
pub linked-held : (g : ProtectionGraph) (u v : Name) → linked g u v ≡ true → (held : Right) × (member take_and_grant held ≡ true) × ((g.holds u held v ≡ true) ⊎ (g.holds v held u ≡ true))
linked-held g u v link = by (or_cases (g.holds u T v || g.holds u G v || g.holds v T u) (g.holds v G u) link)
  where
    first : ((g.holds u T v || g.holds u G v) ≡ true) ⊎ (g.holds v T u ≡ true) → (held : Right) × (member take_and_grant held ≡ true) × ((g.holds u held v ≡ true) ⊎ (g.holds v held u ≡ true))
    first (inl ties) = let t = ties-held g u v ties in (t.0, t.1, inl t.2)
    first (inr has) = (T, refl, inr has)

    by : ((g.holds u T v || g.holds u G v || g.holds v T u) ≡ true) ⊎ (g.holds v G u ≡ true) → (held : Right) × (member take_and_grant held ≡ true) × ((g.holds u held v ≡ true) ⊎ (g.holds v held u ≡ true))
    by (inl some) = first (or_cases (g.holds u T v || g.holds u G v) (g.holds v T u) some)
    by (inr has) = (G, refl, inr has)

-- ---- roles
pub role-there : (l e : Bool) → (l || e) ≡ true → (role : Role) × (role_by l e ≡ Some role)
role-there true true h = (Both, refl)
role-there true false h = (Link, refl)
role-there false true h = (End, refl)
role-there false false h = absurd (false≢true h)

end-crosses : (l b : Bool) (role : Role) → role_by l true ≡ Some role → crosses_by true b role ≡ true
end-crosses false b role is = subst (λ (r : Role). crosses_by true b r ≡ true) (same_Some End role is) refl
end-crosses true b role is = subst (λ (r : Role). crosses_by true b r ≡ true) (same_Some Both role is) refl

differ_or : (a b : Bool) → differ a b ≡ true → (a || b) ≡ true
differ_or true b h = refl
differ_or false true h = refl
differ_or false false h = absurd (false≢true h)

link-crosses : (e a b : Bool) (role : Role) → role_by true e ≡ Some role → differ a b ≡ true → crosses_by a b role ≡ true
link-crosses false a b role is h = subst (λ (r : Role). crosses_by a b r ≡ true) (same_Some Link role is) h
link-crosses true a b role is h = subst (λ (r : Role). crosses_by a b r ≡ true) (same_Some Both role is) (differ_or a b h)

-- ---- which rights are lost
-- the right from a free vertex over y, or a link between a free one and another
pub lost-cases : (right : Right) (y : Name) (free : Name → Bool) (u v : Name) (lost : Right) → is_lost right y free u v lost ≡ true → ((free u ≡ true) × (v ≡ y) × (right ≡ lost)) ⊎ ((differ (free u) (free v) ≡ true) × (member take_and_grant lost ≡ true))
lost-cases right y free u v lost h = by (or_cases (free u && same_name v y && member (only right) lost) (differ (free u) (free v) && member take_and_grant lost) h)
  where
    by : ((free u && same_name v y && member (only right) lost) ≡ true) ⊎ ((differ (free u) (free v) && member take_and_grant lost) ≡ true) → ((free u ≡ true) × (v ≡ y) × (right ≡ lost)) ⊎ ((differ (free u) (free v) ≡ true) × (member take_and_grant lost ≡ true))
    by (inl e) =
        let p = and_parts (free u && same_name v y) (member (only right) lost) e in
        let q = and_parts (free u) (same_name v y) p.0 in
        inl (q.0, same_bytes v y q.1, one_alone right lost p.1)
    by (inr e) = let p = and_parts (differ (free u) (free v)) (member take_and_grant lost) e in inr (p.0, p.1)

pub right-lost : (right : Right) (y : Name) (free : Name → Bool) (u : Name) → free u ≡ true → is_lost right y free u y right ≡ true
right-lost right y free u h = or_left (free u && same_name y y && member (only right) right) (differ (free u) (free y) && member take_and_grant right) (and_from (free u && same_name y y) (member (only right) right) (and_from (free u) (same_name y y) h (same_refl y)) (one_itself right))

pub link-lost : (right : Right) (y : Name) (free : Name → Bool) (u v : Name) (lost : Right) → differ (free u) (free v) ≡ true → member take_and_grant lost ≡ true → is_lost right y free u v lost ≡ true
link-lost right y free u v lost d m = or_right (free u && same_name v y && member (only right) lost) (differ (free u) (free v) && member take_and_grant lost) (and_from (differ (free u) (free v)) (member take_and_grant lost) d m)

pub differ-first : (a b : Bool) → a ≡ true → b ≡ false → differ a b ≡ true
differ-first a b p q = (λ i. differ (p i) (q i))

pub differ-second : (a b : Bool) → a ≡ false → b ≡ true → differ a b ≡ true
differ-second a b p q = (λ i. differ (p i) (q i))

-- ---- one rule
pub record LossOf (g : ProtectionGraph) (right : Right) (y : Name) (free : Name → Bool) (u v : Name) (s : Rights) : Type 0 where
  pub some : is_empty_set s ≡ false
  pub named : IsNamed s
  pub members : (lost : Right) → member s lost ≡ (g.holds u lost v && is_lost right y free u v lost)

pub loss-of : (g : ProtectionGraph) (right : Right) (y : Name) (free : Name → Bool) (u v : Name) (s : Rights) → IsLossRule g right y free (Remove u v s) → LossOf g right y free u v s
loss-of g right y free u v s h = by (same_remove u v s h.source h.target h.rights h.is)
  where
    by : (u ≡ h.source) × (v ≡ h.target) × (s ≡ h.rights) → LossOf g right y free u v s
    by (p, q, r) = record {
      some = ap is_empty_set r ∙ h.some;
      named = subst IsNamed (sym r) h.named;
      members = λ lost. ap (λ (t : Rights). member t lost) r ∙ h.members lost ∙ sym (λ i. g.holds (p i) lost (q i) && is_lost right y free (p i) (q i) lost);
    }

-- ---- all of them
module _ (g : ProtectionGraph) (right : Right) (y : Name) (free : Name → Bool) where
  pub loss-removes : (rules : List Rule) → AllByRecursion (IsLossRule g right y free) rules → AllByRecursion IsRemove rules
  loss-removes rules each = all-map (IsLossRule g right y free) IsRemove (λ rule h. is-remove rule h.source h.target h.rights h.is) rules each

  -- what is taken has to go
  pub taken-lost : (rules : List Rule) → AllByRecursion (IsLossRule g right y free) rules → (u : Name) (lost : Right) (v : Name) → are_taken rules u lost v ≡ true → (g.holds u lost v ≡ true) × (is_lost right y free u v lost ≡ true)
  taken-lost [] each u lost v h = absurd (false≢true h)
  taken-lost (Take a b c s ∷ rules) each u lost v h = taken-lost rules each.1 u lost v h
  taken-lost (Grant a b c s ∷ rules) each u lost v h = taken-lost rules each.1 u lost v h
  taken-lost (Create a n s ∷ rules) each u lost v h = taken-lost rules each.1 u lost v h
  taken-lost (Remove a b s ∷ rules) each u lost v h = by (or_cases (same_name u a && same_name v b && member s lost) (are_taken rules u lost v) h) (taken-lost rules each.1 u lost v)
    where
      by : ((same_name u a && same_name v b && member s lost) ≡ true) ⊎ (are_taken rules u lost v ≡ true) → (are_taken rules u lost v ≡ true → (g.holds u lost v ≡ true) × (is_lost right y free u v lost ≡ true)) → (g.holds u lost v ≡ true) × (is_lost right y free u v lost ≡ true)
      by (inr later) rest = rest later
      by (inl here) rest =
          let p = and_parts (same_name u a && same_name v b) (member s lost) here in
          let q = and_parts (same_name u a) (same_name v b) p.0 in
          let one = loss-of g right y free a b s each.0 in
          let is : (g.holds u lost v && is_lost right y free u v lost) ≡ (g.holds a lost b && is_lost right y free a b lost) = (λ i. g.holds (same_bytes u a q.0 i) lost (same_bytes v b q.1 i) && is_lost right y free (same_bytes u a q.0 i) (same_bytes v b q.1 i) lost) in
          and_parts (g.holds u lost v) (is_lost right y free u v lost) (is ∙ sym (one.members lost) ∙ p.1)

  module _ (rules : List Rule) (losses : AreLosses g right y free rules) where
    after : AfterRemoves g rules
    after = after-removes g rules (loss-removes rules losses.each)

    -- what has to go is gone
    pub lost-gone : (u : Name) (lost : Right) (v : Name) → is_lost right y free u v lost ≡ true → (after_all g rules).holds u lost v ≡ true → ⊥
    lost-gone u lost v h has =
        let p = and_parts (g.holds u lost v) (not (are_taken rules u lost v)) (sym (after.holds u lost v) ∙ has) in
        let taken = losses.all u lost v (and_from (g.holds u lost v) (is_lost right y free u v lost) p.0 h) in
        false≢true (sym (ap not taken) ∙ p.1)

    -- and all else stays
    pub other-stays : (u : Name) (held : Right) (v : Name) → g.holds u held v ≡ true → (is_lost right y free u v held ≡ true → ⊥) → (after_all g rules).holds u held v ≡ true
    other-stays u held v has stays =
        let beside : are_taken rules u held v ≡ false = false_from_ne_true (are_taken rules u held v) (λ taken. stays (taken-lost rules losses.each u held v taken).1) in
        after.holds u held v ∙ and_from (g.holds u held v) (not (are_taken rules u held v)) has (ap not beside)

    -- what is gone had to go
    pub gone-lost : (u : Name) (held : Right) (v : Name) → g.holds u held v ≡ true → (after_all g rules).holds u held v ≡ false → is_lost right y free u v held ≡ true
    gone-lost u held v has gone = true_from_ne_false (is_lost right y free u v held) (λ stays. both_ways ((after_all g rules).holds u held v) gone (other-stays u held v has (λ h. both_ways (is_lost right y free u v held) stays h)))

    -- ---- no free vertex can
    pub free-holds : (u : Name) → free u ≡ true → (after_all g rules).holds u right y ≡ true → ⊥
    free-holds u h has = lost-gone u right y (right-lost right y free u h) has

    pub free-linked : (u v : Name) → free u ≡ true → free v ≡ false → linked (after_all g rules) u v ≡ true → ⊥
    free-linked u v p q link = by (linked-held (after_all g rules) u v link)
      where
        by : (held : Right) × (member take_and_grant held ≡ true) × (((after_all g rules).holds u held v ≡ true) ⊎ ((after_all g rules).holds v held u ≡ true)) → ⊥
        by (held, m, inl has) = lost-gone u held v (link-lost right y free u v held (differ-first (free u) (free v) p q) m) has
        by (held, m, inr has) = lost-gone v held u (link-lost right y free v u held (differ-second (free v) (free u) q p) m) has

    pub all-free : (ws : List Name) (v w : Name) → IsChain (after_all g rules) v ws w → free v ≡ true → free w ≡ true
    all-free [] v w chain h = subst (λ (u : Name). free u ≡ true) chain.0 h
    all-free (t ∷ ts) v w chain h = all-free ts t w chain.2 (true_from_ne_false (free t) (λ other. free-linked v t h other chain.1))

    pub free-unable : (v : Name) → free v ≡ true → HeldInIsland (after_all g rules) right v y → ⊥
    free-unable v h held = let island = held.2 in free-holds held.0 (all-free island.0 v held.0 island.1 h) held.1

-- ---- they take from no more edges than units have gone
module _ (g : ProtectionGraph) (right : Right) (x y : Name) (kept : List Ends) (name : ℕ → Name) (i : ℕ) (at_x : name i ≡ x) (edges : List FlowEdge) (are : AreEdgesOf g right y kept name edges) (units : ℕ) (near others : ℕ → Bool) (free : Name → Bool) (placed : (k : ℕ) (e : FlowEdge) → slice_get edges k ≡ Some e → (free (name e.source) ≡ not (others e.source)) × (free (name e.target) ≡ not (others e.target))) (parted : AreParted edges near others) (fewest : AreFewest edges i units near) (rules : List Rule) (losses : AreLosses g right y free rules) where
  -- the edge of the network that a rule takes from crosses the near ones
  pub record Crossed (u v : Name) : Type 0 where
    pub number : ℕ
    pub edge : FlowEdge
    pub stands : slice_get edges number ≡ Some edge
    pub source : name edge.source ≡ u
    pub target : name edge.target ≡ v
    pub crossed : crosses near edge ≡ true

  lost-crossed : (u : Name) (lost : Right) (v : Name) → g.holds u lost v ≡ true → is_lost right y free u v lost ≡ true → Crossed u v
  lost-crossed u lost v has h = by (lost-cases right y free u v lost h)
    where
      edge-of : (role : Role) → role_between g right y u v ≡ Some role → crosses_by (free u) (free v) role ≡ true → Crossed u v
      edge-of role is cross =
          let o = are.there u v role is in
          let e = o.1 in
          let f = are.from o.0 e o.2 in
          let same : e.role ≡ role = same_Some e.role role (sym f.serves ∙ (λ j. role_between g right y (o.3 j) (o.4 j)) ∙ is) in
          let p = placed o.0 e o.2 in
          let source : not (others e.source) ≡ free u = sym p.0 ∙ ap free o.3 in
          let target : not (others e.target) ≡ free v = sym p.1 ∙ ap free o.4 in
          record {
            number = o.0;
            edge = e;
            stands = o.2;
            source = o.3;
            target = o.4;
            crossed = parted.crossing o.0 e o.2 ((λ j. crosses_by (source j) (target j) (same j)) ∙ cross);
          }

      by : ((free u ≡ true) × (v ≡ y) × (right ≡ lost)) ⊎ ((differ (free u) (free v) ≡ true) × (member take_and_grant lost ≡ true)) → Crossed u v
      by (inl p) =
          let ends : (same_name v y && g.holds u right v) ≡ true = and_from (same_name v y) (g.holds u right v) (ap (λ (w : Name). same_name v w) (sym p.1) ∙ same_refl v) (ap (λ (r : Right). g.holds u r v) p.2 ∙ has) in
          let role = role-there (g.holds u T v || g.holds u G v) (same_name v y && g.holds u right v) (or_right (g.holds u T v || g.holds u G v) (same_name v y && g.holds u right v) ends) in
          let is : role_by (g.holds u T v || g.holds u G v) true ≡ Some role.0 = ap (role_by (g.holds u T v || g.holds u G v)) (sym ends) ∙ role.1 in
          edge-of role.0 role.1 (ap (λ b. crosses_by b (free v) role.0) p.0 ∙ end-crosses (g.holds u T v || g.holds u G v) (free v) role.0 is)
      by (inr p) =
          let ties = link-ties g u lost v p.1 has in
          let role = role-there (g.holds u T v || g.holds u G v) (same_name v y && g.holds u right v) (or_left (g.holds u T v || g.holds u G v) (same_name v y && g.holds u right v) ties) in
          let is : role_by true (same_name v y && g.holds u right v) ≡ Some role.0 = ap (λ b. role_by b (same_name v y && g.holds u right v)) (sym ties) ∙ role.1 in
          edge-of role.0 role.1 (link-crosses (same_name v y && g.holds u right v) (free u) (free v) role.0 is p.0)

  rule-crossed : (u v : Name) (s : Rights) → IsLossRule g right y free (Remove u v s) → Crossed u v
  rule-crossed u v s h =
      let one = loss-of g right y free u v s h in
      let m = some_member s one.named one.some in
      let p = and_parts (g.holds u m.0 v) (is_lost right y free u v m.0) (sym (one.members m.0) ∙ m.1) in
      lost-crossed u m.0 v p.0 p.1

  edges-crossed : AllByRecursion (λ (e : Ends). Crossed e.source e.target) (edges_of rules)
  edges-crossed = edges-each Crossed rules (all-map (IsLossRule g right y free) (λ (rule : Rule). (u v : Name) (s : Rights) → rule ≡ Remove u v s → Crossed u v) (λ rule h u v s is. rule-crossed u v s (subst (IsLossRule g right y free) is h)) rules losses.each)

  pub rules-few : length rules ≤ units
  rules-few =
      let few = count-back (crosses near) (λ (d : Ends). true) (λ (e : FlowEdge) (d : Ends). same_name (name e.source) d.source && same_name (name e.target) d.target) edges (edges_of rules) fitted once in
      omega (arith, few, count-all (edges_of rules), edges-length rules (loss-removes g right y free rules losses.each), fewest.crossed)
    where
      fitted : (k : ℕ) (d : Ends) → slice_get (edges_of rules) k ≡ Some d → true ≡ true → (j : ℕ) × (e : FlowEdge) × (slice_get edges j ≡ Some e) × (crosses near e ≡ true) × ((same_name (name e.source) d.source && same_name (name e.target) d.target) ≡ true)
      fitted k d at passes =
          let c = all-at (λ (e : Ends). Crossed e.source e.target) (edges_of rules) edges-crossed k d at in
          (c.number, c.edge, c.stands, c.crossed, and_from (same_name (name c.edge.source) d.source) (same_name (name c.edge.target) d.target) (ap (λ (v : Name). same_name v d.source) c.source ∙ same_refl d.source) (ap (λ (v : Name). same_name v d.target) c.target ∙ same_refl d.target))

      once : (e : FlowEdge) → count_by (λ (d : Ends). same_name (name e.source) d.source && same_name (name e.target) d.target) (edges_of rules) ≤ 1
      once e = count-one (λ (d : Ends). same_name (name e.source) d.source && same_name (name e.target) d.target) (edges_of rules) one
        where
          one : (j k : ℕ) (c d : Ends) → slice_get (edges_of rules) j ≡ Some c → slice_get (edges_of rules) k ≡ Some d → (same_name (name e.source) c.source && same_name (name e.target) c.target) ≡ true → (same_name (name e.source) d.source && same_name (name e.target) d.target) ≡ true → j ≡ k
          one j k c d p q s t =
              let m = and_parts (same_name (name e.source) c.source) (same_name (name e.target) c.target) s in
              let n = and_parts (same_name (name e.source) d.source) (same_name (name e.target) d.target) t in
              order-one (edges_of rules) losses.order j k c d p q (sym (same_bytes (name e.source) c.source m.0) ∙ same_bytes (name e.source) d.source n.0) (sym (same_bytes (name e.target) c.target m.1) ∙ same_bytes (name e.target) d.target n.1)

  -- no kept edge is taken from
  rule-held : (rule : Rule) → IsLossRule g right y free rule → TakesHeld g kept rule
  rule-held rule h = record {
    source = h.source;
    target = h.target;
    rights = h.rights;
    is = h.is;
    some = h.some;
    named = h.named;
    held = λ lost m. (and_parts (g.holds h.source lost h.target) (is_lost right y free h.source h.target lost) (sym (h.members lost) ∙ m)).0;
    free = false_from_ne_true (is_one_of kept h.source h.target) (kept-crossed (rule-crossed h.source h.target h.rights (subst (IsLossRule g right y free) h.is h)));
  }
    where
      kept-crossed : Crossed h.source h.target → is_one_of kept h.source h.target ≡ true → ⊥
      kept-crossed c k =
          let f = are.from c.number c.edge c.stands in
          let named : is_one_of kept (name c.edge.source) (name c.edge.target) ≡ is_one_of kept h.source h.target = (λ j. is_one_of kept (c.source j) (c.target j)) in
          both_ways (crosses near c.edge) (fewest.closed c.number c.edge c.stands (f.is_kept_as ∙ named ∙ k)) c.crossed

  pub rules-held : AllByRecursion (TakesHeld g kept) rules
  rules-held = all-map (IsLossRule g right y free) (TakesHeld g kept) rule-held rules losses.each

  -- ---- they are a least cut
  module _ (well : WellFormed g) (small : length g.vertices < 2 ^ 64) (shared : SharedExactly) (x_there : IsTrue (has_vertex g x)) (y_there : IsTrue (has_vertex g y)) (x_free : free x ≡ true) where
    loses : Loses g (after_all g rules) (edges_of rules)
    loses = removes-lose g rules (loss-removes g right y free rules losses.each)

    pub is-least : IsLeastCut g right x y kept rules
    is-least = record {
      held = rules-held;
      order = losses.order;
      no = λ can. free-unable g right y free rules losses x x_free (can-held (after_all g rules) right y (loses-well g (after_all g rules) (edges_of rules) loses well) (subst (λ (vs : List Name). length vs < 2 ^ 64) (sym loses.vertices) small) shared (loses-vertex g (after_all g rules) (edges_of rules) loses y y_there) x (loses-vertex g (after_all g rules) (edges_of rules) loses x x_there) can);
      least = λ h lost less keeps few. (
          let can = true_from_ne_false (able h right y x) (λ none. let most = units-lost g right x y kept name i at_x edges are h lost less keeps units near fewest none in let count = rules-few in omega (arith, most, count, few)) in
          able-can h right y (loses-well g h lost less well) (subst (λ (vs : List Name). length vs < 2 ^ 64) (sym less.vertices) small) shared (loses-vertex g h lost less y y_there) x (loses-vertex g h lost less x x_there) can
          );
    }
