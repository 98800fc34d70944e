-- As many units go as edges cross the set of those that are near, and no more than cross any set.
use Rattle.std.proofs.Common.{◌≡◌, ℕ, ◌+◌, ◌<◌, ◌≤◌, Bool, true, false, not, List, slice_get, Some, refl, ap, ◌∙◌, arith}
use Rattle.std.specs.Prelude.{count_by}
use Rattle.std.proofs.lemmas.Bool.{true≢false, false≢true, both_ways, not-true, and_parts, false_from_ne_true, true_from_ne_false}
use Rattle.tg_flow.specs.declared.edges.FlowEdge.{FlowEdge}
use Rattle.tg_flow.specs.declared.edges.Role.{Role}
use Rattle.tg_flow.specs.declared.edges.Role.TheVariants.{Link, End, Both}
use Rattle.tg_flow.specs.declared.edges.Flow.{Flow}
use Rattle.tg_flow.specs.declared.edges.Flow.TheVariants.{Idle, FromSource, FromTarget, Kept}
use Rattle.tg_flow.specs.declared.edges.Side.{Side}
use Rattle.tg_flow.specs.declared.edges.Side.TheVariants.{Source, Target}
use Rattle.tg_flow.specs.declared.edges.Passage.{Passage}
use Rattle.tg_flow.specs.declared.edges.Passage.TheVariants.{Shut, On, Out}
use Rattle.tg_flow.specs.declared.courses.Course.TheVariants.{Near, Beyond}
use Rattle.tg_flow.specs.Edges.{is_kept_flow, opposite, at_side, passage, passage_at}
use Rattle.tg_flow.specs.Flows.{weight, leaves_by, arrives_by, crosses_by, leaves, arrives, crosses, leaving, arriving, IsClosed, IsFlow}
use Rattle.tg_flow.specs.Courses.{nobody, comes_to, goes_from, leads_beyond, IsWhole}
use Rattle.tg_flow.specs.Filling.{IsFull}
use Rattle.tg_flow.specs.Sides.{AreNear}
use Rattle.tg_flow.specs.Cuts.{leads_out, UnitsCross, SidesPart}
use Rattle.tg_flow.proofs.Tallies.{count-two, count-fewer, two-count}

-- ---- no more units than edges that cross a set
edge_leaves : (m n : Bool) (role : Role) (flow : Flow) → weight (leaves_by m n role flow) 1 ≤ weight (arrives_by m n role flow) 1 + weight (crosses_by m n role) 1
edge_leaves m n role Idle = omega arith
edge_leaves m n role Kept = omega arith
edge_leaves true true Link FromSource = omega arith
edge_leaves true false Link FromSource = omega arith
edge_leaves false n Link FromSource = omega arith
edge_leaves true true Link FromTarget = omega arith
edge_leaves false true Link FromTarget = omega arith
edge_leaves m false Link FromTarget = omega arith
edge_leaves m n End FromSource = omega arith
edge_leaves m n End FromTarget = omega arith
edge_leaves true n Both FromSource = omega arith
edge_leaves false n Both FromSource = omega arith
edge_leaves true n Both FromTarget = by n
  where
    by : (n : Bool) → weight n 1 ≤ 0 + weight true 1
    by true = omega arith
    by false = omega arith
edge_leaves false n Both FromTarget = omega arith

pub units-few : (edges : List FlowEdge) (x units : ℕ) → IsFlow edges x units → (s : ℕ → Bool) → IsClosed s edges → s x ≡ true → units ≤ count_by (crosses s) edges
units-few edges x units flow s closed has =
    let even : leaving s edges ≡ arriving s edges + units = flow s closed ∙ ap (λ b. arriving s edges + weight b units) has in
    omega (arith, even, count-two (leaves s) (arrives s) (crosses s) edges (λ k e at. edge_leaves (s e.source) (s e.target) e.role e.flow))

-- a unit that could go on from the set takes more edges than one
edge_lets : (m n : Bool) (role : Role) (flow : Flow) → goes_from m (passage role flow Source) ≡ true → n ≡ false → weight (leaves_by m n role flow) 1 < weight (arrives_by m n role flow) 1 + weight (crosses_by m n role) 1
edge_lets true false Link Idle goes out = omega arith
edge_lets true false Link FromSource goes out = absurd (false≢true goes)
edge_lets true false Link FromTarget goes out = omega arith
edge_lets true false Link Kept goes out = omega arith
edge_lets true false Both FromTarget goes out = omega arith
edge_lets true false Both Idle goes out = absurd (false≢true goes)
edge_lets true false Both FromSource goes out = absurd (false≢true goes)
edge_lets true false Both Kept goes out = absurd (false≢true goes)
edge_lets m n End Idle goes out = absurd (false≢true goes)
edge_lets m n End FromSource goes out = absurd (false≢true goes)
edge_lets m n End FromTarget goes out = absurd (false≢true goes)
edge_lets m n End Kept goes out = absurd (false≢true goes)
edge_lets m true Link flow goes out = absurd (true≢false out)
edge_lets m true Both flow goes out = absurd (true≢false out)
edge_lets false false Link Idle goes out = absurd (false≢true goes)
edge_lets false false Link FromSource goes out = absurd (false≢true goes)
edge_lets false false Link FromTarget goes out = absurd (false≢true goes)
edge_lets false false Link Kept goes out = absurd (false≢true goes)
edge_lets false false Both Idle goes out = absurd (false≢true goes)
edge_lets false false Both FromSource goes out = absurd (false≢true goes)
edge_lets false false Both FromTarget goes out = absurd (false≢true goes)
edge_lets false false Both Kept goes out = absurd (false≢true goes)

edge_lets_back : (m n : Bool) (role : Role) (flow : Flow) → goes_from n (passage role flow Target) ≡ true → m ≡ false → weight (leaves_by m n role flow) 1 < weight (arrives_by m n role flow) 1 + weight (crosses_by m n role) 1
edge_lets_back false true Link Idle goes out = omega arith
edge_lets_back false true Link FromSource goes out = omega arith
edge_lets_back false true Link FromTarget goes out = absurd (false≢true goes)
edge_lets_back false true Link Kept goes out = omega arith
edge_lets_back false true Both FromSource goes out = omega arith
edge_lets_back false true Both Idle goes out = absurd (false≢true goes)
edge_lets_back false true Both FromTarget goes out = absurd (false≢true goes)
edge_lets_back false true Both Kept goes out = absurd (false≢true goes)
edge_lets_back m n End Idle goes out = absurd (false≢true goes)
edge_lets_back m n End FromSource goes out = absurd (false≢true goes)
edge_lets_back m n End FromTarget goes out = absurd (false≢true goes)
edge_lets_back m n End Kept goes out = absurd (false≢true goes)
edge_lets_back true n Link flow goes out = absurd (true≢false out)
edge_lets_back true n Both flow goes out = absurd (true≢false out)
edge_lets_back false false Link Idle goes out = absurd (false≢true goes)
edge_lets_back false false Link FromSource goes out = absurd (false≢true goes)
edge_lets_back false false Link FromTarget goes out = absurd (false≢true goes)
edge_lets_back false false Link Kept goes out = absurd (false≢true goes)
edge_lets_back false false Both Idle goes out = absurd (false≢true goes)
edge_lets_back false false Both FromSource goes out = absurd (false≢true goes)
edge_lets_back false false Both FromTarget goes out = absurd (false≢true goes)
edge_lets_back false false Both Kept goes out = absurd (false≢true goes)

-- from a set that is crossed by no more edges than units have gone, no unit can go on
pub fewest-whole : (edges : List FlowEdge) (x units : ℕ) → IsFlow edges x units → (s : ℕ → Bool) → IsClosed s edges → s x ≡ true → count_by (crosses s) edges ≤ units → IsWhole Near nobody s edges
fewest-whole edges x units flow s closed has few k e here at lead = true_from_ne_false (s (at_side e here)) (λ out. too_many (less here lead out))
  where
    less : (here : Side) → goes_from (s (at_side e (opposite here))) (passage_at e (opposite here)) ≡ true → s (at_side e here) ≡ false → weight (leaves s e) 1 < weight (arrives s e) 1 + weight (crosses s e) 1
    less Source lead out = edge_lets_back (s e.source) (s e.target) e.role e.flow lead out
    less Target lead out = edge_lets (s e.source) (s e.target) e.role e.flow lead out

    too_many : weight (leaves s e) 1 < weight (arrives s e) 1 + weight (crosses s e) 1 → ⊥
    too_many one =
        let even : leaving s edges ≡ arriving s edges + units = flow s closed ∙ ap (λ b. arriving s edges + weight b units) has in
        omega (arith, even, few, count-fewer (leaves s) (arrives s) (crosses s) edges k e (λ j f there. edge_leaves (s f.source) (s f.target) f.role f.flow) at one)

-- ---- each edge that crosses the near ones takes a unit from them
near_edge : (m n : Bool) (role : Role) (flow : Flow) → (goes_from m (passage role flow Source) ≡ true → n ≡ true) → (goes_from n (passage role flow Target) ≡ true → m ≡ true) → (m ≡ true → comes_to false (passage role flow Source) ≡ false) → (n ≡ true → comes_to false (passage role flow Target) ≡ false) → weight (crosses_by m n role) 1 + weight (arrives_by m n role flow) 1 ≤ weight (leaves_by m n role flow) 1
near_edge true true Link Idle from_source from_target source target = omega arith
near_edge true false Link Idle from_source from_target source target = absurd (false≢true (from_source refl))
near_edge false true Link Idle from_source from_target source target = absurd (false≢true (from_target refl))
near_edge false false Link Idle from_source from_target source target = omega arith
near_edge true true Link FromSource from_source from_target source target = omega arith
near_edge true false Link FromSource from_source from_target source target = omega arith
near_edge false true Link FromSource from_source from_target source target = absurd (false≢true (from_target refl))
near_edge false false Link FromSource from_source from_target source target = omega arith
near_edge true true Link FromTarget from_source from_target source target = omega arith
near_edge true false Link FromTarget from_source from_target source target = absurd (false≢true (from_source refl))
near_edge false true Link FromTarget from_source from_target source target = omega arith
near_edge false false Link FromTarget from_source from_target source target = omega arith
near_edge true true Link Kept from_source from_target source target = omega arith
near_edge true false Link Kept from_source from_target source target = absurd (false≢true (from_source refl))
near_edge false true Link Kept from_source from_target source target = absurd (false≢true (from_target refl))
near_edge false false Link Kept from_source from_target source target = omega arith
near_edge true true End Idle from_source from_target source target = absurd (true≢false (source refl))
near_edge true false End Idle from_source from_target source target = absurd (true≢false (source refl))
near_edge false true End Idle from_source from_target source target = omega arith
near_edge false false End Idle from_source from_target source target = omega arith
near_edge true true End FromSource from_source from_target source target = omega arith
near_edge true false End FromSource from_source from_target source target = omega arith
near_edge false true End FromSource from_source from_target source target = omega arith
near_edge false false End FromSource from_source from_target source target = omega arith
near_edge true true End FromTarget from_source from_target source target = absurd (true≢false (source refl))
near_edge true false End FromTarget from_source from_target source target = absurd (true≢false (source refl))
near_edge false true End FromTarget from_source from_target source target = omega arith
near_edge false false End FromTarget from_source from_target source target = omega arith
near_edge true true End Kept from_source from_target source target = absurd (true≢false (source refl))
near_edge true false End Kept from_source from_target source target = absurd (true≢false (source refl))
near_edge false true End Kept from_source from_target source target = omega arith
near_edge false false End Kept from_source from_target source target = omega arith
near_edge true true Both Idle from_source from_target source target = absurd (true≢false (source refl))
near_edge true false Both Idle from_source from_target source target = absurd (true≢false (source refl))
near_edge false true Both Idle from_source from_target source target = absurd (true≢false (target refl))
near_edge false false Both Idle from_source from_target source target = omega arith
near_edge true true Both FromSource from_source from_target source target = omega arith
near_edge true false Both FromSource from_source from_target source target = omega arith
near_edge false true Both FromSource from_source from_target source target = absurd (false≢true (from_target refl))
near_edge false false Both FromSource from_source from_target source target = omega arith
near_edge true true Both FromTarget from_source from_target source target = omega arith
near_edge true false Both FromTarget from_source from_target source target = absurd (false≢true (from_source refl))
near_edge false true Both FromTarget from_source from_target source target = omega arith
near_edge false false Both FromTarget from_source from_target source target = omega arith
near_edge true true Both Kept from_source from_target source target = absurd (true≢false (source refl))
near_edge true false Both Kept from_source from_target source target = absurd (true≢false (source refl))
near_edge false true Both Kept from_source from_target source target = absurd (true≢false (target refl))
near_edge false false Both Kept from_source from_target source target = omega arith

kept_leaves : (m n : Bool) (role : Role) (flow : Flow) → is_kept_flow flow ≡ true → leaves_by m n role flow ≡ false
kept_leaves m n role Idle kept = refl
kept_leaves m n role Kept kept = refl
kept_leaves m n role FromSource kept = absurd (false≢true kept)
kept_leaves m n role FromTarget kept = absurd (false≢true kept)

none_crosses : (b c : Bool) (n : ℕ) → c ≡ false → weight b 1 + n ≤ weight c 1 → b ≡ false
none_crosses true true n h few = absurd (true≢false h)
none_crosses true false n h few = absurd (omega (arith, few))
none_crosses false c n h few = refl

comes-false : (p : Passage) (a : Bool) → comes_to a p ≡ false → comes_to false p ≡ false
comes-false Shut a h = refl
comes-false (Out after) a h = h
comes-false (On after) a h = refl

-- a unit can't go on so to the other side, if that is far
goes-apart : (p : Passage) (other here : Bool) → goes_from (not other) p ≡ true → (comes_to here p ≡ true → other ≡ true) → not here ≡ true
goes-apart Shut other here h to = absurd (false≢true h)
goes-apart (Out after) other here h to = absurd (false≢true h)
goes-apart (On after) other true h to = absurd (both_ways other (not-true other h) (to refl))
goes-apart (On after) other false h to = refl

module _ (edges : List FlowEdge) (x units : ℕ) (full : IsFull edges x units) (near : ℕ → Bool) (are : AreNear edges x near) where
  -- who is near is not far
  apart : (v : ℕ) → near v ≡ true → full.far v ≡ false
  apart v h = not-true (full.far v) (are.least (λ u. not (full.far u)) (ap not full.apart) whole v h)
    where
      -- what leads to the far ones, at the other side
      to : (k : ℕ) (e : FlowEdge) (here : Side) → slice_get edges k ≡ Some e → comes_to (full.far (at_side e here)) (passage_at e (opposite here)) ≡ true → full.far (at_side e (opposite here)) ≡ true
      to k e Source at = full.whole k e Target at
      to k e Target at = full.whole k e Source at

      whole : IsWhole Near nobody (λ u. not (full.far u)) edges
      whole k e here at lead = goes-apart (passage_at e (opposite here)) (full.far (at_side e (opposite here))) (full.far (at_side e here)) lead (to k e here at)

  -- no unit that is near can go out
  shut : (k : ℕ) (e : FlowEdge) (here : Side) → slice_get edges k ≡ Some e → near (at_side e here) ≡ true → comes_to false (passage_at e here) ≡ false
  shut k e here at h = comes-false (passage_at e here) (full.far (at_side e (opposite here))) (false_from_ne_true (comes_to (full.far (at_side e (opposite here))) (passage_at e here)) (λ yes. both_ways (full.far (at_side e here)) (apart (at_side e here) h) (full.whole k e here at yes)))

  crossing : (k : ℕ) (e : FlowEdge) → slice_get edges k ≡ Some e → weight (crosses near e) 1 + weight (arrives near e) 1 ≤ weight (leaves near e) 1
  crossing k e at = near_edge (near e.source) (near e.target) e.role e.flow (are.whole k e Target at) (are.whole k e Source at) (shut k e Source at) (shut k e Target at)

  near-closed : IsClosed near edges
  near-closed k e at kept = none_crosses (crosses near e) (leaves near e) (weight (arrives near e) 1) (kept_leaves (near e.source) (near e.target) e.role e.flow kept) (crossing k e at)

  near-crossed : count_by (crosses near) edges ≡ units
  near-crossed =
      let even : leaving near edges ≡ arriving near edges + units = full.flow near near-closed ∙ ap (λ b. arriving near edges + weight b units) are.first in
      omega (arith, even, two-count (leaves near) (crosses near) (arrives near) edges crossing, units-few edges x units full.flow near near-closed are.first)

pub units-cross : UnitsCross
units-cross edges x units full near are = record {
  closed = near-closed edges x units full near are;
  crossed = near-crossed edges x units full near are;
  least = λ s closed has. units-few edges x units full.flow s closed has;
  inside = λ s closed has few. are.least s has (fewest-whole edges x units full.flow s closed has few);
}

-- ---- who is not beyond
free_edge : (has_holders m n p q : Bool) (role : Role) → (leads_beyond has_holders m n q role Source ≡ true → p ≡ true) → (leads_beyond has_holders n m p role Target ≡ true → q ≡ true) → (m ≡ true → p ≡ false) → (n ≡ true → q ≡ false) → (has_holders ≡ false → leads_out role ≡ true → crosses_by m n role ≡ true) → crosses_by (not p) (not q) role ≡ true → crosses_by m n role ≡ true
free_edge h m n true true Link source target near_source near_target anyway crossed = absurd (false≢true crossed)
free_edge h m n false false Link source target near_source near_target anyway crossed = absurd (false≢true crossed)
free_edge h true n true false Link source target near_source near_target anyway crossed = absurd (true≢false (near_source refl))
free_edge h false true true false Link source target near_source near_target anyway crossed = refl
free_edge true false false true false Link source target near_source near_target anyway crossed = absurd (false≢true (target refl))
free_edge false false false true false Link source target near_source near_target anyway crossed = absurd (false≢true (target refl))
free_edge h m true false true Link source target near_source near_target anyway crossed = absurd (true≢false (near_target refl))
free_edge h true false false true Link source target near_source near_target anyway crossed = refl
free_edge true false false false true Link source target near_source near_target anyway crossed = absurd (false≢true (source refl))
free_edge false false false false true Link source target near_source near_target anyway crossed = absurd (false≢true (source refl))
free_edge h true n p q End source target near_source near_target anyway crossed = refl
free_edge true false n true q End source target near_source near_target anyway crossed = absurd (false≢true crossed)
free_edge true false n false q End source target near_source near_target anyway crossed = absurd (false≢true (source refl))
free_edge false false n p q End source target near_source near_target anyway crossed = anyway refl refl
free_edge h true n p q Both source target near_source near_target anyway crossed = refl
free_edge h false true p q Both source target near_source near_target anyway crossed = refl
free_edge false false false p q Both source target near_source near_target anyway crossed = anyway refl refl
free_edge true false false true true Both source target near_source near_target anyway crossed = absurd (false≢true crossed)
free_edge true false false true false Both source target near_source near_target anyway crossed = absurd (false≢true (target refl))
free_edge true false false false q Both source target near_source near_target anyway crossed = absurd (false≢true (source refl))

-- the set of all but the near ones is one that nothing leads out of
others_whole : (edges : List FlowEdge) (has_holders : Bool) (near : ℕ → Bool) → IsWhole (Beyond has_holders) near (λ v. not (near v)) edges
others_whole edges has_holders near k e here at lead = (and_parts (not (near (at_side e here))) _ lead).0

pub sides-part : SidesPart
sides-part edges has_holders near others are anyway = record {
  apart = apart_from;
  crossing = λ k e at crossed. free_edge has_holders (near e.source) (near e.target) (others e.source) (others e.target) e.role (are.whole k e Source at) (are.whole k e Target at) (apart_from e.source) (apart_from e.target) (anyway k e at) crossed;
}
  where
    apart_from : (v : ℕ) → near v ≡ true → others v ≡ false
    apart_from v h = false_from_ne_true (others v) (λ yes. both_ways (not (near v)) (ap not h) (are.least (λ u. not (near u)) (others_whole edges has_holders near) v yes))
