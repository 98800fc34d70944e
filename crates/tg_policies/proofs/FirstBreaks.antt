-- The first case of lists in name order is what breaks a line first.
use Rattle.std.proofs.Common.{◌≡◌, ℕ, zero, suc, ◌<◌, ◌≤◌, ◌↔◌, Bool, true, false, List, [], ◌∷◌, Option, Some, None, length, slice_get, get_or, refl, sym, ap, subst, ◌∙◌, arith, inl, inr, ◌⊎◌, IsTrue}
use Rattle.std.specs.List.{list_any}
use Rattle.std.specs.List.Sorted.{IsStrictlySortedBy}
use Rattle.std.specs.declared.cmp.Ordering.TheVariants.{Less}
use Rattle.std.proofs.lemmas.Bool.{cases_lt}
use Rattle.tg_names.specs.declared.right_sets.Right.{Right}
use Rattle.tg_names.specs.declared.right_sets.Rights.{Rights}
use Rattle.tg_names.specs.Sets.{member, bit_of}
use Rattle.tg_names.specs.Names.{Name}
use Rattle.tg_graph.specs.Graphs.{ProtectionGraph, has_vertex}
use Rattle.tg_graph.specs.RuleLists.{CanShare}
use Rattle.tg_text.specs.declared.policy_text.Operand.{Operand}
use Rattle.tg_text.specs.declared.policy_text.Operand.TheVariants as operand
use Rattle.tg_text.specs.declared.policy_text.Claim.TheVariants as claim
use Rattle.tg_text.specs.PolicyText.{lacks_vertex}
use Rattle.tg_text.specs.Canonical.{name_cmp, in_name_order}
use Rattle.tg_text.proofs.NameOrder.{Strict, Above, among, among-in_order, strict-in_order}
use Rattle.tg_analysis.specs.declared.cases.Case.{Case}
use Rattle.tg_analysis.specs.Cases.{IsEarlier, IsCase, FindsFirst, AreVertices, CannotShare, StandsAt, StandsUnmarked}
use Rattle.tg_analysis.proofs.CaseOrder.{same_right}
use Rattle.tg_analysis.proofs.FirstCases.{stands-once}
use Rattle.tg_islands.proofs.Places.{place_of, place-known}
use Rattle.tg_policies.specs.Policies.{Membership, stands_for, some_stands_for, IsAbout, IsBeyond, IsVerdict, ComesBefore, ByRight, ByFirst, BySecond}
use Rattle.tg_policies.specs.PolicyParts.{AreRisingPlaces, IsNamed, NamesVertices, is_marked_name}
use Rattle.tg_policies.proofs.GroupLaws.{marked-at, position-there}
use Rattle.tg_policies.proofs.ToldLines.{none-passes, not_false, or_neither}

-- ---- names and their places
above-at : (x : Name) (xs : List Name) → Above x xs → (k : ℕ) (v : Name) → slice_get xs k ≡ Some v → name_cmp x v ≡ Less
above-at x [] a k v e = absurd cc
above-at x (u ∷ xs) a zero v e =
    let same : u ≡ v = cc in
    subst (λ w. name_cmp x w ≡ Less) same a.0
above-at x (u ∷ xs) a (suc k) v e = above-at x xs a.1 k v e

-- names in strict order stand in the order of their places
ordered : (xs : List Name) → Strict xs → (i k : ℕ) (u v : Name) → i < k → slice_get xs i ≡ Some u → slice_get xs k ≡ Some v → name_cmp u v ≡ Less
unfolding IsStrictlySortedBy
ordered [] s i k u v l a b = absurd cc
ordered (x ∷ xs) s zero zero u v l a b = absurd (omega arith)
ordered (x ∷ xs) s zero (suc k) u v l a b =
    let same : x ≡ u = cc in
    subst (λ w. name_cmp w v ≡ Less) same (above-at x xs s.0 k v b)
ordered (x ∷ xs) s (suc i) zero u v l a b = absurd (omega arith)
ordered (x ∷ xs) s (suc i) (suc k) u v l a b = ordered xs s.1 i k u v (omega arith) a b

-- ---- cases in name order
-- who is meant at places stands in the order of these
abbrev pub AreInTurn : (ℕ → Name → Type 0) → Type 0
AreInTurn who = (i k : ℕ) (u v : Name) → i < k → who i u → who k v → name_cmp u v ≡ Less

-- one name is meant at a place
abbrev pub IsMeantOnce : (ℕ → Name → Type 0) → Type 0
IsMeantOnce who = (i : ℕ) (u v : Name) → who i u → who i v → u ≡ v

module _ (s : Rights) (claimed : Right → Name → Name → Type 0) (who whom : ℕ → Name → Type 0) (turn_x : AreInTurn who) (once_x : IsMeantOnce who) (turn_y : AreInTurn whom) (once_y : IsMeantOnce whom) where
  -- a right of the set, and an x and a y that are meant, of which the claim holds
  pub record IsOne (b : Case) : Type 0 where
    pub asked : IsTrue (member s b.right)
    pub x : (i : ℕ) × who i b.x
    pub y : (j : ℕ) × whom j b.y
    pub holds : claimed b.right b.x b.y

  -- there is none, or this is the first
  abbrev pub IsFirstOne : Option Case → Type 0
  IsFirstOne None = (b : Case) → IsOne b → ⊥
  IsFirstOne (Some b) = IsOne b × ((c : Case) → IsOne c → (c ≡ b) ⊎ ComesBefore b c)

  case-of : (b : Case) (h : IsOne b) → IsCase claimed s who whom b.right h.x.0 h.y.0
  case-of b h = record { x = b.x; y = b.y; at_x = h.x.1; at_y = h.y.1; asked = h.asked; claimed = h.holds }

  -- of two cases at these places, of which the second is not earlier, the first comes before the second, or they are one
  not-earlier : (b c : Case) (i j k l : ℕ) → who i b.x → whom j b.y → who k c.x → whom l c.y → (IsEarlier c.right k l b.right i j → ⊥) → (c ≡ b) ⊎ ComesBefore b c
  not-earlier b c i j k l bx by cx cy never = rights (cases_lt (bit_of b.right) (bit_of c.right)) (cases_lt (bit_of c.right) (bit_of b.right))
    where
      x-same : k ≡ i → b.x ≡ c.x
      x-same is = once_x i b.x c.x bx (subst (λ n. who n c.x) is cx)

      ys_same : c.right ≡ b.right → k ≡ i → (j < l) ⊎ (l ≤ j) → (l < j) ⊎ (j ≤ l) → (c ≡ b) ⊎ ComesBefore b c
      ys_same r x (inl less) other = inr (BySecond (sym r) (x-same x) (turn_y j l b.y c.y less by cy))
      ys_same r x (inr not) (inl less) = absurd (never (inr (r, x, less)))
      ys_same r x (inr not) (inr also) =
          let place : l ≡ j = omega arith in
          let one : c.x ≡ b.x = sym (x-same x) in
          let other : c.y ≡ b.y = sym (once_y j b.y c.y by (subst (λ n. whom n c.y) place cy)) in
          inl (λ n. record { right = r n; x = one n; y = other n })

      xs_same : c.right ≡ b.right → (i < k) ⊎ (k ≤ i) → (k < i) ⊎ (i ≤ k) → (c ≡ b) ⊎ ComesBefore b c
      xs_same r (inl less) other = inr (ByFirst (sym r) (turn_x i k b.x c.x less bx cx))
      xs_same r (inr not) (inl less) = absurd (never (inl (inr (r, less))))
      xs_same r (inr not) (inr also) = ys_same r (omega arith) (cases_lt j l) (cases_lt l j)

      rights : (bit_of b.right < bit_of c.right) ⊎ (bit_of c.right ≤ bit_of b.right) → (bit_of c.right < bit_of b.right) ⊎ (bit_of b.right ≤ bit_of c.right) → (c ≡ b) ⊎ ComesBefore b c
      rights (inl less) other = inr (ByRight less)
      rights (inr not) (inl less) = absurd (never (inl (inl less)))
      rights (inr not) (inr also) = xs_same (same_right c.right b.right (omega arith)) (cases_lt i k) (cases_lt k i)

  pub first-one : (found : Option Case) → FindsFirst claimed s who whom found → IsFirstOne found
  first-one None none = λ b h. none b.right h.x.0 h.y.0 (case-of b h)
  first-one (Some b) h = (
    record { asked = h.asked; x = (h.i, h.at_x); y = (h.j, h.at_y); holds = h.claimed },
    λ c k. not-earlier b c h.i h.j k.x.0 k.y.0 h.at_x h.at_y k.x.1 k.y.1 (h.first c.right k.x.0 k.y.0 (case-of c k)),
  )

-- ---- names in strict order, by their places
module _ (names : List Name) (strict : Strict names) where
  pub places-in-turn : (places : List ℕ) → AreRisingPlaces places → AreInTurn (StandsAt names places)
  places-in-turn places rising i k u v less (p, at_p, at_u) (q, at_q, at_v) = ordered names strict p q u v (rising i k p q less at_p at_q) at_u at_v

  pub meant-once : (places : List ℕ) → IsMeantOnce (StandsAt names places)
  meant-once places i u v h j = sym (stands-once names places i u v h j)

  pub unmarked-in-turn : (marks : List Bool) → AreInTurn (StandsUnmarked names marks)
  unmarked-in-turn marks i k u v less h j = ordered names strict i k u v less h.0 j.0

  pub unmarked-once : (marks : List Bool) → IsMeantOnce (StandsUnmarked names marks)
  unmarked-once marks i u v h j = let first = h.0 in let second = j.0 in cc

-- ---- verdicts
pub strict-names : (g : ProtectionGraph) (names : List Name) → names ≡ in_name_order g.vertices → Strict names
strict-names g names all = subst Strict (sym all) (strict-in_order g.vertices)

module _ (g : ProtectionGraph) (in_group : Membership) (s : Rights) (names : List Name) (all : names ≡ in_name_order g.vertices) where
  strict : Strict names
  strict = strict-names g names all

  module _ (one other : Operand) (xs ys : List ℕ) (rise_x : AreRisingPlaces xs) (rise_y : AreRisingPlaces ys) (same_x : (v : Name) → ((i : ℕ) × StandsAt names xs i v) ↔ IsTrue (stands_for in_group v one)) (same_y : (v : Name) → ((i : ℕ) × StandsAt names ys i v) ↔ IsTrue (stands_for in_group v other)) where
    abbrev IsFound : (Right → Name → Name → Type 0) → Case → Type 0
    IsFound claimed b = IsOne s claimed (StandsAt names xs) (StandsAt names ys) (places-in-turn names strict xs rise_x) (meant-once names strict xs) (places-in-turn names strict ys rise_y) (meant-once names strict ys) b

    about : (claimed : Right → Name → Name → Type 0) (b : Case) → IsFound claimed b → IsAbout in_group s one other b
    about claimed b k = record { asked = k.asked; x = (same_x b.x).0 k.x; y = (same_y b.y).0 k.y }

    found-one : (claimed : Right → Name → Name → Type 0) (b : Case) → IsAbout in_group s one other b → claimed b.right b.x b.y → IsFound claimed b
    found-one claimed b k h = record { asked = k.asked; x = (same_x b.x).1 k.x; y = (same_y b.y).1 k.y; holds = h }

    abbrev Finds : (Right → Name → Name → Type 0) → Option Case → Type 0
    Finds claimed found = FindsFirst claimed s (StandsAt names xs) (StandsAt names ys) found

    first : (claimed : Right → Name → Name → Type 0) (found : Option Case) → Finds claimed found → IsFirstOne s claimed (StandsAt names xs) (StandsAt names ys) (places-in-turn names strict xs rise_x) (meant-once names strict xs) (places-in-turn names strict ys rise_y) (meant-once names strict ys) found
    first claimed found h = first-one s claimed (StandsAt names xs) (StandsAt names ys) (places-in-turn names strict xs rise_x) (meant-once names strict xs) (places-in-turn names strict ys rise_y) (meant-once names strict ys) found h

    pub never-verdict : (found : Option Case) → Finds (λ right x y. CanShare g right x y) found → IsVerdict g in_group (claim.Never s) (one ∷ other ∷ []) found
    never-verdict None h = λ b k. first (λ right x y. CanShare g right x y) None h b (found-one (λ right x y. CanShare g right x y) b k.0 k.1)
    never-verdict (Some b) h =
        let f = first (λ right x y. CanShare g right x y) (Some b) h in
        record { breaks = (about (λ right x y. CanShare g right x y) b f.0, f.0.holds); first = λ c k. f.1 c (found-one (λ right x y. CanShare g right x y) c k.0 k.1) }

    pub may-verdict : (found : Option Case) → Finds (CannotShare g) found → IsVerdict g in_group (claim.May s) (one ∷ other ∷ []) found
    may-verdict None h = λ b k. first (CannotShare g) None h b (found-one (CannotShare g) b k.0 k.1)
    may-verdict (Some b) h =
        let f = first (CannotShare g) (Some b) h in
        record { breaks = (about (CannotShare g) b f.0, f.0.holds); first = λ c k. f.1 c (found-one (CannotShare g) c k.0 k.1) }

  module _ (targets : Operand) (others : List Operand) (ys : List ℕ) (allowed : List Bool) (rise_y : AreRisingPlaces ys) (same_y : (v : Name) → ((i : ℕ) × StandsAt names ys i v) ↔ IsTrue (stands_for in_group v targets)) (same : (v : Name) → is_marked_name names allowed v ≡ some_stands_for in_group others v) where
    abbrev CanClaim : Right → Name → Name → Type 0
    CanClaim right x y = CanShare g right x y

    abbrev IsFoundBeyond : Case → Type 0
    IsFoundBeyond b = IsOne s CanClaim (StandsUnmarked names allowed) (StandsAt names ys) (unmarked-in-turn names strict allowed) (unmarked-once names strict allowed) (places-in-turn names strict ys rise_y) (meant-once names strict ys) b

    -- who is meant is a vertex that none of the others stands for
    beyond : (b : Case) → IsFoundBeyond b → IsBeyond g in_group s targets others b
    beyond b k = record {
      asked = k.asked;
      vertex = sym (among-in_order b.x g.vertices) ∙ ap (among b.x) (sym all) ∙ place-known names k.x.0 b.x k.x.1.0;
      x = sym (same b.x) ∙ marked-at names allowed b.x k.x.0 (position-there names strict k.x.0 b.x k.x.1.0) ∙ k.x.1.1;
      y = (same_y b.y).0 k.y;
    }

    found-beyond : (b : Case) → IsBeyond g in_group s targets others b → CanShare g b.right b.x b.y → IsFoundBeyond b
    found-beyond b k h =
        let at = place_of names b.x (ap (among b.x) all ∙ among-in_order b.x g.vertices ∙ k.vertex) in
        record {
          asked = k.asked;
          x = (at.0, (at.1, sym (marked-at names allowed b.x at.0 (position-there names strict at.0 b.x at.1)) ∙ same b.x ∙ k.x));
          y = (same_y b.y).1 k.y;
          holds = h;
        }

    pub only-verdict : (found : Option Case) → FindsFirst CanClaim s (StandsUnmarked names allowed) (StandsAt names ys) found → IsVerdict g in_group (claim.Only s) (targets ∷ others) found
    only-verdict found h = by found (first-one s CanClaim (StandsUnmarked names allowed) (StandsAt names ys) (unmarked-in-turn names strict allowed) (unmarked-once names strict allowed) (places-in-turn names strict ys rise_y) (meant-once names strict ys) found h)
      where
        by : (found : Option Case) → IsFirstOne s CanClaim (StandsUnmarked names allowed) (StandsAt names ys) (unmarked-in-turn names strict allowed) (unmarked-once names strict allowed) (places-in-turn names strict ys rise_y) (meant-once names strict ys) found → IsVerdict g in_group (claim.Only s) (targets ∷ others) found
        by None none = λ b k. none b (found-beyond b k.0 k.1)
        by (Some b) f = record { breaks = (beyond b f.0, f.0.holds); first = λ c k. f.1 c (found-beyond c k.0 k.1) }

-- ---- the vertices that are named
-- each of the names is a vertex
pub all-vertices : (g : ProtectionGraph) (names : List Name) → names ≡ in_name_order g.vertices → AreVertices g names
all-vertices g names is i v at =
    sym (among-in_order v g.vertices) ∙ place-known (in_name_order g.vertices) i v (subst (λ (l : List Name). slice_get l i ≡ Some v) is at)

pub found-vertices : (g : ProtectionGraph) (claimed : Right → Name → Name → Type 0) (s : Rights) (who whom : ℕ → Name → Type 0) (found : Option Case) → FindsFirst claimed s who whom found → ((i : ℕ) (v : Name) → who i v → has_vertex g v ≡ true) → ((i : ℕ) (v : Name) → whom i v → has_vertex g v ≡ true) → NamesVertices g found
found-vertices g claimed s who whom None h of_x of_y = tt
found-vertices g claimed s who whom (Some b) h of_x of_y = (of_x h.i b.x h.at_x, of_y h.j b.y h.at_y)

module _ (g : ProtectionGraph) (names : List Name) (is : names ≡ in_name_order g.vertices) where
  pub stands-as-vertex : (places : List ℕ) (i : ℕ) (v : Name) → StandsAt names places i v → has_vertex g v ≡ true
  stands-as-vertex places i v h = all-vertices g names is h.0 v h.2

  pub unmarked-vertex : (marks : List Bool) (i : ℕ) (v : Name) → StandsUnmarked names marks i v → has_vertex g v ≡ true
  unmarked-vertex marks i v h = all-vertices g names is i v h.0

  -- the vertex that a known operand names is one of the names
  pub known-named : (one : Operand) → lacks_vertex g one ≡ false → IsNamed names one
  known-named (operand.Vertex v) known = ap (among v) is ∙ among-in_order v g.vertices ∙ not_false (has_vertex g v) known
  known-named (operand.Group n) known = tt

  pub known-all : (operands : List Operand) → list_any (lacks_vertex g) operands ≡ false → (i : ℕ) (one : Operand) → slice_get operands i ≡ Some one → IsNamed names one
  known-all operands known i one at = known-named one (none-passes (lacks_vertex g) operands known i one at)

-- ---- operands
pub both_known : (g : ProtectionGraph) (a b : Operand) → list_any (lacks_vertex g) (a ∷ b ∷ []) ≡ false → (lacks_vertex g a ≡ false) × (lacks_vertex g b ≡ false)
both_known g a b h =
    let first = or_neither (lacks_vertex g a) (list_any (lacks_vertex g) (b ∷ [])) h in
    (first.0, (or_neither (lacks_vertex g b) false first.1).0)

-- a line of two operands that hasn't two is broken by nothing
pub not-two : (g : ProtectionGraph) (in_group : Membership) (s : Rights) (operands : List Operand) → (length operands ≡ 2 → ⊥) → IsVerdict g in_group (claim.Never s) operands None × IsVerdict g in_group (claim.May s) operands None
not-two g in_group s [] other = (λ b h. h, λ b h. h)
not-two g in_group s (x ∷ []) other = (λ b h. h, λ b h. h)
not-two g in_group s (x ∷ y ∷ []) other = absurd (other refl)
not-two g in_group s (x ∷ y ∷ z ∷ operands) other = (λ b h. h, λ b h. h)

pub two_of : (operands : List Operand) (d : Operand) → length operands ≡ 2 → operands ≡ get_or operands 0 d ∷ get_or operands 1 d ∷ []
two_of [] d h = absurd (omega (arith, h))
two_of (x ∷ []) d h = absurd (omega (arith, h))
two_of (x ∷ y ∷ []) d h = refl
two_of (x ∷ y ∷ z ∷ operands) d h = absurd (omega (arith, h))
