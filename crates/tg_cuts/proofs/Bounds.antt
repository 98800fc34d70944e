-- Whatever rights are taken so that x can't, they are taken from as many edges at least as units have gone.
use Rattle.std.proofs.Common.{◌≡◌, ℕ, ◌≤◌, Bool, true, false, not, ◌&&◌, ◌||◌, List, length, slice_get, Some, refl, sym, ap, subst, ◌∙◌, IsTrue, arith}
use Rattle.std.specs.Prelude.{count_by}
use Rattle.std.proofs.lemmas.Bool.{false≢true, both_ways, not-true, and_parts, true_from_ne_false}
use Rattle.std.proofs.lemmas.Option.{none-some, same_Some}
use Rattle.tg_flow.specs.declared.edges.FlowEdge.{FlowEdge}
use Rattle.tg_flow.specs.declared.edges.Role.{Role}
use Rattle.tg_flow.specs.declared.edges.Role.TheVariants.{Link, End, Both}
use Rattle.tg_flow.specs.Flows.{crosses, crosses_by, IsClosed}
use Rattle.tg_flow.specs.Filling.{IsEndless}
use Rattle.tg_flow.specs.Cuts.{AreFewest}
use Rattle.tg_flow.proofs.Tallies.{count-one, count-cover}
use Rattle.tg_names.specs.declared.right_sets.Right.{Right}
use Rattle.tg_names.specs.declared.right_sets.Right.TheVariants.{T, G}
use Rattle.tg_names.specs.Names.{Name, same_name}
use Rattle.tg_graph.specs.Graphs.{ProtectionGraph, has_vertex}
use Rattle.tg_rows.proofs.Rows.{same_bytes}
use Rattle.tg_cuts.specs.declared.kept.Ends.{Ends}
use Rattle.tg_islands.specs.Sharing.{linked}
use Rattle.tg_cuts.specs.Cuts.{is_one_of, Loses, Keeps}
use Rattle.tg_cuts.specs.CutParts.{role_by}
use Rattle.tg_islands.proofs.OneIsland.{linked_sym}
use Rattle.tg_cuts.proofs.Able.{able, able-holds, able-link}
use Rattle.tg_cuts.proofs.FlowEdges.{role_between, AreEdgesOf}
use Rattle.tg_cuts.proofs.Removed.{loses-vertex}

-- ---- what a role says
abbrev pub RoleFacts : Bool → Bool → Role → Type 0
RoleFacts l e Link = l ≡ true
RoleFacts l e End = e ≡ true
RoleFacts l e Both = (l ≡ true) × (e ≡ true)

pub role-facts : (l e : Bool) (role : Role) → role_by l e ≡ Some role → RoleFacts l e role
role-facts false false role h = absurd (none-some role h)
role-facts true false role h = subst (RoleFacts true false) (same_Some Link role h) refl
role-facts false true role h = subst (RoleFacts false true) (same_Some End role h) refl
role-facts true true role h = subst (RoleFacts true true) (same_Some Both role h) (refl, refl)

-- an edge that links
pub ties-linked : (h : ProtectionGraph) (u v : Name) → (h.holds u T v || h.holds u G v) ≡ true → linked h u v ≡ true
ties-linked h u v ties = ap (λ t. t || h.holds v T u || h.holds v G u) ties

-- ---- an edge that is whole does not cross the set of those who can't
same_apart : (a b : Bool) → (a ≡ true → b ≡ true) → (b ≡ true → a ≡ true) → crosses_by (not a) (not b) Link ≡ false
same_apart true true f g = refl
same_apart false false f g = refl
same_apart true false f g = absurd (false≢true (f refl))
same_apart false true f g = absurd (false≢true (g refl))

both_apart : (a b : Bool) → a ≡ true → b ≡ true → crosses_by (not a) (not b) Both ≡ false
both_apart true true p q = refl
both_apart true false p q = absurd (false≢true q)
both_apart false b p q = absurd (false≢true p)

module _ (h : ProtectionGraph) (right : Right) (y u v : Name) (u_there : IsTrue (has_vertex h u)) (v_there : IsTrue (has_vertex h v)) where
  -- the end of an edge that leads to the end holds the right
  end-able : (same_name v y && h.holds u right v) ≡ true → able h right y u ≡ true
  end-able ends =
      let p = and_parts (same_name v y) (h.holds u right v) ends in
      able-holds h right y u (subst (λ (w : Name). h.holds u right w ≡ true) (same_bytes v y p.0) p.1)

  link-back : (h.holds u T v || h.holds u G v) ≡ true → able h right y u ≡ true → able h right y v ≡ true
  link-back ties can = able-link h right y v u v_there u_there (linked_sym h u v (ties-linked h u v ties)) can

  link-on : (h.holds u T v || h.holds u G v) ≡ true → able h right y v ≡ true → able h right y u ≡ true
  link-on ties can = able-link h right y u v u_there v_there (ties-linked h u v ties) can

  pub whole-apart : (role : Role) → role_between h right y u v ≡ Some role → crosses_by (not (able h right y u)) (not (able h right y v)) role ≡ false
  whole-apart Link is =
      let ties = role-facts (h.holds u T v || h.holds u G v) (same_name v y && h.holds u right v) Link is in
      same_apart (able h right y u) (able h right y v) (link-back ties) (link-on ties)
  whole-apart End is = ap not (end-able (role-facts (h.holds u T v || h.holds u G v) (same_name v y && h.holds u right v) End is))
  whole-apart Both is =
      let facts = role-facts (h.holds u T v || h.holds u G v) (same_name v y && h.holds u right v) Both is in
      let can = end-able facts.1 in
      both_apart (able h right y u) (able h right y v) can (link-back facts.0 can)

-- ---- the set of those who can't in a graph that has lost rights
module _ (g : ProtectionGraph) (right : Right) (x y : Name) (kept : List Ends) (name : ℕ → Name) (i : ℕ) (at_x : name i ≡ x) (edges : List FlowEdge) (are : AreEdgesOf g right y kept name edges) (h : ProtectionGraph) (lost : List Ends) (loses : Loses g h lost) (keeps : Keeps g h kept) where
  abbrev pub unable : ℕ → Bool
  unable a = not (able h right y (name a))

  same-apart : (k : ℕ) (e : FlowEdge) → slice_get edges k ≡ Some e → ((held : Right) → h.holds (name e.source) held (name e.target) ≡ g.holds (name e.source) held (name e.target)) → crosses unable e ≡ false
  same-apart k e at same =
      let f = are.from k e at in
      let serves : role_between h right y (name e.source) (name e.target) ≡ Some e.role = (λ j. role_by (same T j || same G j) (same_name (name e.target) y && same right j)) ∙ f.serves in
      whole-apart h right y (name e.source) (name e.target) (loses-vertex g h lost loses (name e.source) f.source_there) (loses-vertex g h lost loses (name e.target) f.target_there) e.role serves

  unable-closed : IsClosed unable edges
  unable-closed k e at is_kept = let f = are.from k e at in same-apart k e at (λ held. keeps (name e.source) held (name e.target) (sym f.is_kept_as ∙ is_kept))

  -- who crosses it has lost something
  crossed-lost : (k : ℕ) (e : FlowEdge) → slice_get edges k ≡ Some e → crosses unable e ≡ true → is_one_of lost (name e.source) (name e.target) ≡ true
  crossed-lost k e at crossed = true_from_ne_false (is_one_of lost (name e.source) (name e.target)) (λ beside. both_ways (crosses unable e) (same-apart k e at (λ held. loses.others (name e.source) held (name e.target) beside)) crossed)

  crossed-few : count_by (crosses unable) edges ≤ length lost
  crossed-few = count-cover (crosses unable) (λ (d : Ends) (e : FlowEdge). same_name (name e.source) d.source && same_name (name e.target) d.target) edges lost crossed-lost once
    where
      once : (d : Ends) → count_by (λ (e : FlowEdge). same_name (name e.source) d.source && same_name (name e.target) d.target) edges ≤ 1
      once d = count-one (λ (e : FlowEdge). same_name (name e.source) d.source && same_name (name e.target) d.target) edges one
        where
          one : (j k : ℕ) (e f : FlowEdge) → slice_get edges j ≡ Some e → slice_get edges k ≡ Some f → (same_name (name e.source) d.source && same_name (name e.target) d.target) ≡ true → (same_name (name f.source) d.source && same_name (name f.target) d.target) ≡ true → j ≡ k
          one j k e f p q s t =
              let m = and_parts (same_name (name e.source) d.source) (same_name (name e.target) d.target) s in
              let n = and_parts (same_name (name f.source) d.source) (same_name (name f.target) d.target) t in
              are.apart j k e f p q (same_bytes (name e.source) d.source m.0 ∙ sym (same_bytes (name f.source) d.source n.0)) (same_bytes (name e.target) d.target m.1 ∙ sym (same_bytes (name f.target) d.target n.1))

  x-unable : able h right y x ≡ false → unable i ≡ true
  x-unable none = ap (λ (v : Name). not (able h right y v)) at_x ∙ ap not none

  -- where any number of units can go, x can
  pub endless-able : IsEndless edges i → able h right y x ≡ true
  endless-able endless = true_from_ne_false (able h right y x) (λ none. endless unable (x-unable none) unable-closed)

  module _ (units : ℕ) (near : ℕ → Bool) (fewest : AreFewest edges i units near) (none : able h right y x ≡ false) where
    pub units-lost : units ≤ length lost
    units-lost = let least = fewest.least unable unable-closed (x-unable none) in omega (arith, least, crossed-few)

    -- where no more edges have lost something than units have gone, no one near x can
    pub near-unable : length lost ≤ units → (a : ℕ) → near a ≡ true → able h right y (name a) ≡ false
    near-unable few a is_near = not-true (able h right y (name a)) (fewest.inside unable unable-closed (x-unable none) (omega (arith, few, crossed-few)) a is_near)
