-- What rules lead to that take rights away.
use Rattle.std.proofs.Common.{◌≡◌, ◌⊎◌, inl, inr, ℕ, zero, suc, Bool, true, false, ◌&&◌, ◌||◌, not, List, [], ◌∷◌, length, slice_get, Some, refl, sym, ap, ◌∙◌, subst, IsTrue, lit<}
use Rattle.std.specs.List.{AllByRecursion, list_any}
use Rattle.std.proofs.lemmas.Bool.{false≢true, eq-eqb, both_ways, or_cases, or_left, or_right, or_from, and_parts, and_from, false_from_ne_true, cases_Bool}
use Rattle.std.proofs.lemmas.Option.{none-some, same_Some}
use Rattle.tg_names.specs.declared.right_sets.Right.{Right}
use Rattle.tg_names.specs.declared.right_sets.Right.TheVariants.{T, G, R, W, E, A, D}
use Rattle.tg_names.specs.declared.right_sets.Rights.{Rights}
use Rattle.tg_graph.specs.declared.rules.Rule.{Rule}
use Rattle.tg_graph.specs.declared.rules.Rule.TheVariants.{Take, Grant, Create, Remove}
use Rattle.tg_names.specs.Sets.{member, is_empty_set, IsNamed, nothing}
use Rattle.tg_names.specs.Names.{Name, same_name}
use Rattle.tg_graph.specs.Graphs.{ProtectionGraph, has_vertex, WellFormed}
use Rattle.tg_graph.specs.Rules.{without_rights, after}
use Rattle.tg_graph.specs.RuleLists.{after_all}
use Rattle.tg_names.proofs.Sets.{same_set, member-nothing}
use Rattle.tg_rows.proofs.Rows.{same_bytes}
use Rattle.tg_cuts.specs.declared.kept.Ends.{Ends}
use Rattle.tg_cuts.specs.Cuts.{is_one_of, Loses, Keeps, TakesHeld, edges_of}
use Rattle.tg_cuts.specs.CutParts.{are_taken}
use Rattle.tg_islands.proofs.NameTests.{same_refl}

-- ---- one rule
no_member : (s : Rights) → IsNamed s → ((right : Right) → member s right ≡ false) → is_empty_set s ≡ true
no_member s named none = eq-eqb s.0 0 (ap (λ (r : Rights). r.0) (same_set s nothing (λ right. none right ∙ sym (member-nothing right)) named (lit< tt)))

abbrev pub IsRemove : Rule → Type 0
IsRemove (Take x y z s) = ⊥
IsRemove (Grant x y z s) = ⊥
IsRemove (Create x n s) = ⊥
IsRemove (Remove u v s) = Unit {0}

pub is-remove : (rule : Rule) (u v : Name) (s : Rights) → rule ≡ Remove u v s → IsRemove rule
is-remove rule u v s is = subst IsRemove (sym is) tt

pub same_remove : (u v : Name) (s : Rights) (a b : Name) (t : Rights) → Remove u v s ≡ Remove a b t → (u ≡ a) × (v ≡ b) × (s ≡ t)
same_remove u v s a b t is = (cc, cc, cc)

-- a set that is not empty has a member
pub some_member : (s : Rights) → IsNamed s → is_empty_set s ≡ false → (right : Right) × (member s right ≡ true)
some_member s named some = by (cases_Bool (member s T)) (cases_Bool (member s G)) (cases_Bool (member s R)) (cases_Bool (member s W)) (cases_Bool (member s E)) (cases_Bool (member s A)) (cases_Bool (member s D))
  where
    by : (member s T ≡ true) ⊎ (member s T ≡ false) → (member s G ≡ true) ⊎ (member s G ≡ false) → (member s R ≡ true) ⊎ (member s R ≡ false) → (member s W ≡ true) ⊎ (member s W ≡ false) → (member s E ≡ true) ⊎ (member s E ≡ false) → (member s A ≡ true) ⊎ (member s A ≡ false) → (member s D ≡ true) ⊎ (member s D ≡ false) → (right : Right) × (member s right ≡ true)
    by (inl h) g r w e a d = (T, h)
    by (inr t) (inl h) r w e a d = (G, h)
    by (inr t) (inr g) (inl h) w e a d = (R, h)
    by (inr t) (inr g) (inr r) (inl h) e a d = (W, h)
    by (inr t) (inr g) (inr r) (inr w) (inl h) a d = (E, h)
    by (inr t) (inr g) (inr r) (inr w) (inr e) (inl h) d = (A, h)
    by (inr t) (inr g) (inr r) (inr w) (inr e) (inr a) (inl h) = (D, h)
    by (inr t) (inr g) (inr r) (inr w) (inr e) (inr a) (inr d) = absurd (both_ways (is_empty_set s) some (no_member s named none))
      where
        none : (right : Right) → member s right ≡ false
        none T = t
        none G = g
        none R = r
        none W = w
        none E = e
        none A = a
        none D = d

-- what such a rule takes of a graph's rights
pub record RemoveHeld (g : ProtectionGraph) (kept : List Ends) (u v : Name) (s : Rights) : Type 0 where
  pub some : is_empty_set s ≡ false
  pub named : IsNamed s
  pub held : (right : Right) → member s right ≡ true → g.holds u right v ≡ true
  pub free : is_one_of kept u v ≡ false

pub remove-held : (g : ProtectionGraph) (kept : List Ends) (u v : Name) (s : Rights) → TakesHeld g kept (Remove u v s) → RemoveHeld g kept u v s
remove-held g kept u v s h = by (same_remove u v s h.source h.target h.rights h.is)
  where
    by : (u ≡ h.source) × (v ≡ h.target) × (s ≡ h.rights) → RemoveHeld g kept u v s
    by (p, q, r) = record {
      some = ap is_empty_set r ∙ h.some;
      named = subst IsNamed (sym r) h.named;
      held = λ right m. (λ i. g.holds (p i) right (q i)) ∙ h.held right (sym (ap (λ (t : Rights). member t right) r) ∙ m);
      free = (λ i. is_one_of kept (p i) (q i)) ∙ h.free;
    }

-- ---- rules in turn
pub record AfterRemoves (g : ProtectionGraph) (rules : List Rule) : Type 0 where
  pub vertices : (after_all g rules).vertices ≡ g.vertices
  pub holds : (u : Name) (right : Right) (v : Name) → (after_all g rules).holds u right v ≡ (g.holds u right v && not (are_taken rules u right v))

nothing_taken : (a : Bool) → a ≡ (a && not false)
nothing_taken true = refl
nothing_taken false = refl

both_taken : (a b c : Bool) → ((a && not b) && not c) ≡ (a && not (b || c))
both_taken true true c = refl
both_taken true false c = refl
both_taken false b c = refl

pub after-removes : (g : ProtectionGraph) (rules : List Rule) → AllByRecursion IsRemove rules → AfterRemoves g rules
unfolding after
after-removes g [] are = record { vertices = refl; holds = λ u right v. nothing_taken (g.holds u right v) }
after-removes g (Take x y z s ∷ rules) are = absurd are.0
after-removes g (Grant x y z s ∷ rules) are = absurd are.0
after-removes g (Create x n s ∷ rules) are = absurd are.0
after-removes g (Remove x y s ∷ rules) are =
    let rest = after-removes (without_rights g x y s) rules are.1 in
    record {
      vertices = rest.vertices;
      holds = λ u right v. rest.holds u right v ∙ both_taken (g.holds u right v) (same_name u x && same_name v y && member s right) (are_taken rules u right v);
    }

-- what is taken is taken from an edge of the rules
pub taken-edge : (rules : List Rule) (u : Name) (right : Right) (v : Name) → are_taken rules u right v ≡ true → is_one_of (edges_of rules) u v ≡ true
taken-edge [] u right v h = absurd (false≢true h)
taken-edge (Take x y z s ∷ rules) u right v h = taken-edge rules u right v h
taken-edge (Grant x y z s ∷ rules) u right v h = taken-edge rules u right v h
taken-edge (Create x n s ∷ rules) u right v h = taken-edge rules u right v h
taken-edge (Remove x y s ∷ rules) u right v h = by (or_cases (same_name u x && same_name v y && member s right) (are_taken rules u right v) h) (taken-edge rules u right v)
  where
    by : ((same_name u x && same_name v y && member s right) ≡ true) ⊎ (are_taken rules u right v ≡ true) → (are_taken rules u right v ≡ true → is_one_of (edges_of rules) u v ≡ true) → ((same_name u x && same_name v y) || is_one_of (edges_of rules) u v) ≡ true
    by (inl here) rest = or_left (same_name u x && same_name v y) (is_one_of (edges_of rules) u v) (and_parts (same_name u x && same_name v y) (member s right) here).0
    by (inr later) rest = or_right (same_name u x && same_name v y) (is_one_of (edges_of rules) u v) (rest later)

-- the edge of a rule is one of those of the rules
pub edge-among : (rules : List Rule) (k : ℕ) (u v : Name) (s : Rights) → slice_get rules k ≡ Some (Remove u v s) → is_one_of (edges_of rules) u v ≡ true
edge-among [] k u v s at = absurd (none-some (Remove u v s) at)
edge-among (rule ∷ rules) zero u v s at = subst (λ (r : Rule). is_one_of (edges_of (r ∷ rules)) u v ≡ true) (sym (same_Some rule (Remove u v s) at)) (or_left (same_name u u && same_name v v) (is_one_of (edges_of rules) u v) (and_from (same_name u u) (same_name v v) (same_refl u) (same_refl v)))
edge-among (Take x y z t ∷ rules) (suc k) u v s at = edge-among rules k u v s at
edge-among (Grant x y z t ∷ rules) (suc k) u v s at = edge-among rules k u v s at
edge-among (Create x n t ∷ rules) (suc k) u v s at = edge-among rules k u v s at
edge-among (Remove x y t ∷ rules) (suc k) u v s at = or_right (same_name u x && same_name v y) (is_one_of (edges_of rules) u v) (edge-among rules k u v s at)

pub edges-length : (rules : List Rule) → AllByRecursion IsRemove rules → length (edges_of rules) ≡ length rules
edges-length [] are = refl
edges-length (Take x y z s ∷ rules) are = absurd are.0
edges-length (Grant x y z s ∷ rules) are = absurd are.0
edges-length (Create x n s ∷ rules) are = absurd are.0
edges-length (Remove x y s ∷ rules) are = ap suc (edges-length rules are.1)

untouched : (a b : Bool) → (b ≡ true → ⊥) → (a && not b) ≡ a
untouched true true none = absurd (none refl)
untouched true false none = refl
untouched false b none = refl

pub removes-lose : (g : ProtectionGraph) (rules : List Rule) → AllByRecursion IsRemove rules → Loses g (after_all g rules) (edges_of rules)
removes-lose g rules are =
    let a = after-removes g rules are in
    record {
      vertices = a.vertices;
      fewer = λ u right v has. (and_parts (g.holds u right v) (not (are_taken rules u right v)) (sym (a.holds u right v) ∙ has)).0;
      others = λ u right v beside. a.holds u right v ∙ untouched (g.holds u right v) (are_taken rules u right v) (λ taken. both_ways (is_one_of (edges_of rules) u v) beside (taken-edge rules u right v taken));
    }

-- ---- the rules of a cut
module _ (g : ProtectionGraph) (kept : List Ends) where
  pub held-removes : (cut : List Rule) → AllByRecursion (TakesHeld g kept) cut → AllByRecursion IsRemove cut
  held-removes [] held = tt
  held-removes (rule ∷ cut) held = let h = held.0 in (is-remove rule h.source h.target h.rights h.is, held-removes cut held.1)

  kept-beside : (cut : List Rule) → AllByRecursion (TakesHeld g kept) cut → (u v : Name) → is_one_of kept u v ≡ true → is_one_of (edges_of cut) u v ≡ false
  kept-beside [] held u v k = refl
  kept-beside (Take x y z s ∷ cut) held u v k = kept-beside cut held.1 u v k
  kept-beside (Grant x y z s ∷ cut) held u v k = kept-beside cut held.1 u v k
  kept-beside (Create x n s ∷ cut) held u v k = kept-beside cut held.1 u v k
  kept-beside (Remove x y s ∷ cut) held u v k = or_from (same_name u x && same_name v y) (is_one_of (edges_of cut) u v) (false_from_ne_true (same_name u x && same_name v y) other) (kept-beside cut held.1 u v k)
    where
      other : (same_name u x && same_name v y) ≡ true → ⊥
      other same =
          let p = and_parts (same_name u x) (same_name v y) same in
          let r = remove-held g kept x y s held.0 in
          let q : is_one_of kept u v ≡ is_one_of kept x y = (λ i. is_one_of kept (same_bytes u x p.0 i) (same_bytes v y p.1 i)) in
          both_ways (is_one_of kept x y) r.free (sym q ∙ k)

  pub cut-loses : (cut : List Rule) → AllByRecursion (TakesHeld g kept) cut → Loses g (after_all g cut) (edges_of cut)
  cut-loses cut held = removes-lose g cut (held-removes cut held)

  pub cut-keeps : (cut : List Rule) → AllByRecursion (TakesHeld g kept) cut → Keeps g (after_all g cut) kept
  cut-keeps cut held u right v k = (cut-loses cut held).others u right v (kept-beside cut held u v k)

-- ---- a graph that has lost rights
module _ (g h : ProtectionGraph) (edges : List Ends) (loses : Loses g h edges) where
  pub loses-vertex : (v : Name) → IsTrue (has_vertex g v) → IsTrue (has_vertex h v)
  loses-vertex v there = ap (λ (vs : List Name). list_any (same_name v) vs) loses.vertices ∙ there

  pub loses-well : WellFormed g → WellFormed h
  loses-well well = record {
    names = λ v there. well.names v (sym (ap (λ (vs : List Name). list_any (same_name v) vs) loses.vertices) ∙ there);
    ends = λ u right v has. let ends = well.ends u right v (loses.fewer u right v has) in (loses-vertex u ends.0, loses-vertex v ends.1);
  }
