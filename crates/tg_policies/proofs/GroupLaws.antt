-- Places of names, marks at places, and names that join a group.
use Rattle.std.proofs.Common.{◌≡◌, ℕ, ◌<◌, ◌≤◌, ◌+◌, ◌↔◌, Bool, true, false, ◌||◌, ◌&&◌, not, List, [], ◌∷◌, ◌++◌, set, replicate, Option, Some, None, Result, Ok, Err, Vec, Global, length, slice_get, get_or, take, bytes_eq, refl, sym, ap, subst, ◌∙◌, arith, true≢false, inl, inr, ◌⊎◌, IsTrue}
use Rattle.std.specs.Option.{option_map_or}
use Rattle.std.specs.List.{position}
use Rattle.std.specs.List.Sorted.{IsStrictlySortedBy, IsSearchInRange, IsBinarySearchResult, IsNonDecreasingBy}
use Rattle.std.specs.Cmp.Lexicographic.{nat_list_cmp_total, nat_list_eq_equiv}
use Rattle.std.specs.Ordering.{is_eq, is_lt, ordering_index, ordering_reverse}
use Rattle.std.specs.declared.cmp.Ordering.TheVariants.{Less}
use Rattle.std.specs.BTreeMap.{get}
use Rattle.std.proofs.lemmas.Bool.{cases_lt, cases_eq, cases_Bool}
use Rattle.std.proofs.lemmas.List.{get_or-set_same, get_or-set_other, get_or-replicate, get_or_past, length-set, length-replicate}
use Rattle.std.proofs.lemmas.List.Folds.{list_any_more}
use Rattle.std.proofs.lemmas.List.Sorted.{searchable_from_sorted}
use Rattle.std.proofs.lemmas.Map.Keys.{Less-from_sorted}
use Rattle.std.proofs.lemmas.Map.Lookups.{exact_bytes}
use Rattle.std.proofs.lemmas.Map.Text.{is_eq-slice_cmp}
use Rattle.std.proofs.lemmas.Option.{slice_get-get_or, slice_get_within}
use Rattle.tg_names.specs.Names.{Name, same_name}
use Rattle.tg_graph.proofs.Positions.{at-position}
use Rattle.tg_rows.proofs.Rows.{same_bytes}
use Rattle.tg_text.specs.declared.policy_text.Operand.{Operand}
use Rattle.tg_text.specs.declared.policy_text.Operand.TheVariants as operand
use Rattle.tg_text.specs.Canonical.{name_cmp}
use Rattle.tg_analysis.specs.Cases.{ArePlaces, StandsAt, is_marked}
use Rattle.tg_islands.proofs.RowEnds.{behind-is, behind-keeps, behind-last, found}
use Rattle.tg_islands.proofs.Places.{place-known}
use Rattle.tg_policies.specs.declared.groups.Groups.{Groups}
use Rattle.tg_policies.specs.Policies.{Membership, stands_for, some_stands_for}
use Rattle.tg_policies.specs.PolicyParts.{AreMarked, AreRisingPlaces, is_marked_name, membership}

-- ---- the place of a name
module _ (names : List Name) (strict : IsStrictlySortedBy name_cmp names) where
  -- two places at which one name stands are one
  pub one-place : (i k : ℕ) (v : Name) → slice_get names i ≡ Some v → slice_get names k ≡ Some v → i ≡ k
  one-place i k v h j = by (cases_lt i k) (cases_lt k i)
    where
      apart : (a b : ℕ) → a < b → slice_get names a ≡ Some v → slice_get names b ≡ Some v → ⊥
      apart a b less p q =
          let low = slice_get_within names b v q in
          let below : name_cmp (get_or names a []) (get_or names b []) ≡ Less = Less-from_sorted name_cmp names a b [] strict less low in
          let first : get_or names a [] ≡ v = (let there = slice_get-get_or names a [] (omega arith) in cc) in
          let second : get_or names b [] ≡ v = (let there = slice_get-get_or names b [] low in cc) in
          let same : name_cmp v v ≡ Less = ap (λ u. name_cmp u v) (sym first) ∙ ap (name_cmp (get_or names a [])) (sym second) ∙ below in
          true≢false (sym (ap is_lt same) ∙ ap is_lt (nat_list_cmp_total.antisymm v v ∙ ap ordering_reverse same))

      by : (i < k) ⊎ (k ≤ i) → (k < i) ⊎ (i ≤ k) → i ≡ k
      by (inl less) other = absurd (apart i k less h j)
      by (inr most) (inl less) = absurd (apart k i less j h)
      by (inr most) (inr also) = omega arith

  pub position-there : (p : ℕ) (v : Name) → slice_get names p ≡ Some v → position (bytes_eq v) names ≡ Some p
  position-there p v h =
      let q = found names v (place-known names p v h) in
      q.1 ∙ ap Some (one-place q.0 p v (at-position names v q.0 q.1) h)

  -- what a search for a name finds
  searchable : (v : Name) → IsNonDecreasingBy (λ u. ordering_index (name_cmp u v)) names
  searchable v = searchable_from_sorted nat_list_cmp_total (λ (u : Name). u) names v (λ k d zero low.
      let below = Less-from_sorted name_cmp names k (k + 1) d strict (omega arith) low in
      ap is_lt (nat_list_cmp_total.antisymm (get_or names (k + 1) d) (get_or names k d) ∙ ap ordering_reverse below))

  pub searched-place : (v : Name) (r : Result ℕ ℕ) → IsSearchInRange r (length names) → IsBinarySearchResult (λ u. name_cmp u v) names r → (o : Option ℕ) → ((p : ℕ) → r ≡ Ok p → o ≡ Some p) → ((p : ℕ) → r ≡ Err p → o ≡ None) → o ≡ position (bytes_eq v) names
  searched-place v (Ok p) low equal o is none =
      let same : get_or names p [] ≡ v = exact_bytes (get_or names p []) v (equal []) in
      is p refl ∙ sym (position-there p v (slice_get-get_or names p [] low ∙ ap Some same))
  searched-place v (Err gap) low parted o is none = none gap refl ∙ sym (by (position (bytes_eq v) names) refl)
    where
      absent : (q : ℕ) → slice_get names q ≡ Some v → (q < gap) ⊎ (gap ≤ q) → ⊥
      absent q h by_place =
          let within = slice_get_within names q v h in
          let here : get_or names q [] ≡ v = (let there = slice_get-get_or names q [] within in cc) in
          let same : is_eq (name_cmp (get_or names q []) v) ≡ true = ap (λ u. is_eq (name_cmp u v)) here ∙ is_eq-slice_cmp v v ∙ nat_list_eq_equiv.refl v in
          elim by_place [
            | inl less ↦ true≢false (sym same ∙ ap is_eq ((parted (searchable v)).0 q [] (omega arith) less))
            | inr high ↦ true≢false (sym same ∙ ap is_eq ((parted (searchable v)).1 q [] high within))
          ]

      by : (o : Option ℕ) → position (bytes_eq v) names ≡ o → o ≡ None
      by None e = refl
      by (Some q) e = absurd (absent q (at-position names v q e) (cases_lt q gap))

-- ---- marks
module _ (names : List Name) (marks : List Bool) (v : Name) where
  pub marked-at : (p : ℕ) → position (bytes_eq v) names ≡ Some p → is_marked_name names marks v ≡ is_marked marks p
  marked-at p e = ap (λ (o : Option ℕ). option_map_or (λ place. is_marked marks place) o false) e

  pub marked-nowhere : position (bytes_eq v) names ≡ None → is_marked_name names marks v ≡ false
  marked-nowhere e = ap (λ (o : Option ℕ). option_map_or (λ place. is_marked marks place) o false) e

  -- who is marked has a place
  pub marked-place : is_marked_name names marks v ≡ true → (p : ℕ) × (position (bytes_eq v) names ≡ Some p) × (is_marked marks p ≡ true)
  marked-place h = by (position (bytes_eq v) names) refl
    where
      by : (o : Option ℕ) → position (bytes_eq v) names ≡ o → (p : ℕ) × (position (bytes_eq v) names ≡ Some p) × (is_marked marks p ≡ true)
      by (Some p) e = (p, e, sym (marked-at p e) ∙ h)
      by None e = absurd (true≢false (sym h ∙ marked-nowhere e))

-- no place of so many is marked
pub none-marked : (names : List Name) (count : ℕ) (v : Name) → is_marked_name names (replicate count false) v ≡ false
none-marked names count v = by (position (bytes_eq v) names) refl
  where
    clear : (p : ℕ) → (p < count) ⊎ (count ≤ p) → is_marked (replicate count false) p ≡ false
    clear p (inl low) = get_or-replicate count p false false low
    clear p (inr high) = get_or_past (replicate count false) p false (omega (arith, length-replicate {A = Bool} count false))

    by : (o : Option ℕ) → position (bytes_eq v) names ≡ o → is_marked_name names (replicate count false) v ≡ false
    by (Some p) e = marked-at names (replicate count false) v p e ∙ clear p (cases_lt p count)
    by None e = marked-nowhere names (replicate count false) v e

-- ---- the marked places
pub marked-none : (marks : List Bool) → AreMarked marks 0 []
marked-none marks = record {
  within = λ i place h. absurd (let low = slice_get_within {A = ℕ} [] i place h in omega arith);
  all = λ place low h. absurd (omega arith);
  rising = λ i k a b less h j. absurd (let low = slice_get_within {A = ℕ} [] i a h in omega arith);
}

module _ (marks : List Bool) (count : ℕ) (places : List ℕ) (so_far : AreMarked marks count places) where
  pub marked-skip : is_marked marks count ≡ false → AreMarked marks (count + 1) places
  marked-skip not = record {
    within = λ i place h. let w = so_far.within i place h in ((let low = w.0 in omega arith), w.1);
    all = λ place low h. by place low h (cases_lt place count);
    rising = so_far.rising;
  }
    where
      by : (place : ℕ) → place < count + 1 → is_marked marks place ≡ true → (place < count) ⊎ (count ≤ place) → (i : ℕ) × (slice_get places i ≡ Some place)
      by place low h (inl l) = so_far.all place l h
      by place low h (inr l) = absurd (let is : place ≡ count = omega arith in true≢false (sym h ∙ ap (is_marked marks) is ∙ not))

  pub marked-more : (more : List ℕ) → is_marked marks count ≡ true → more ≡ places ++ count ∷ [] → AreMarked marks (count + 1) more
  marked-more more here is = record {
    within = λ i place h. within i place (split i place h);
    all = λ place low h. all place low h (cases_lt place count);
    rising = λ i k a b less h j. rising i k a b less (split i a h) (split k b j) j;
  }
    where
      split : (i place : ℕ) → slice_get more i ≡ Some place → (slice_get places i ≡ Some place) ⊎ ((i ≡ length places) × (place ≡ count))
      split i place h = behind-is ℕ places count i place (subst (λ (l : List ℕ). slice_get l i ≡ Some place) is h)

      within : (i place : ℕ) → (slice_get places i ≡ Some place) ⊎ ((i ≡ length places) × (place ≡ count)) → (place < count + 1) × (is_marked marks place ≡ true)
      within i place (inl h) = let w = so_far.within i place h in ((let low = w.0 in omega arith), w.1)
      within i place (inr h) = let same = h.1 in (omega arith, ap (is_marked marks) same ∙ here)

      all : (place : ℕ) → place < count + 1 → is_marked marks place ≡ true → (place < count) ⊎ (count ≤ place) → (i : ℕ) × (slice_get more i ≡ Some place)
      all place low h (inl l) = let at = so_far.all place l h in (at.0, subst (λ (l : List ℕ). slice_get l at.0 ≡ Some place) (sym is) (behind-keeps ℕ places count at.0 place at.1))
      all place low h (inr l) =
          let same : place ≡ count = omega arith in
          (length places, subst (λ (l : List ℕ). slice_get l (length places) ≡ Some place) (sym is) (behind-last ℕ places count ∙ ap Some (sym same)))

      rising : (i k a b : ℕ) → i < k → (slice_get places i ≡ Some a) ⊎ ((i ≡ length places) × (a ≡ count)) → (slice_get places k ≡ Some b) ⊎ ((k ≡ length places) × (b ≡ count)) → slice_get more k ≡ Some b → a < b
      rising i k a b less (inl h) (inl j) at = so_far.rising i k a b less h j
      rising i k a b less (inl h) (inr j) at = let w = so_far.within i a h in let low = w.0 in let same = j.1 in omega arith
      rising i k a b less (inr h) (inl j) at = absurd (let first = h.0 in let low = slice_get_within places k b j in omega arith)
      rising i k a b less (inr h) (inr j) at = absurd (let first = h.0 in let second = j.0 in omega arith)

-- ---- whom an operand stands for
module _ (names : List Name) (strict : IsStrictlySortedBy name_cmp names) where
  -- those who stand at the places and those for whom the operand stands are the same
  abbrev pub AreOf : Membership → Operand → List ℕ → Type 0
  AreOf in_group one places = (v : Name) → ((i : ℕ) × StandsAt names places i v) ↔ IsTrue (stands_for in_group v one)

  pub of-vertex : (in_group : Membership) (w : Name) (p : ℕ) (places : List ℕ) → position (bytes_eq w) names ≡ Some p → places ≡ p ∷ [] → AreOf in_group (operand.Vertex w) places
  of-vertex in_group w p places e is v = (λ h. forth h, λ h. back h)
    where
      forth : (i : ℕ) × StandsAt names places i v → IsTrue (bytes_eq v w)
      forth h =
          let there = subst (λ (l : List ℕ). slice_get l h.0 ≡ Some h.1.0) is h.1.1 in
          let low = slice_get_within (p ∷ []) h.0 h.1.0 there in
          let first : h.0 ≡ 0 = omega arith in
          let at : Some p ≡ Some h.1.0 = sym (ap (slice_get (p ∷ [])) first) ∙ there in
          let same : p ≡ h.1.0 = cc in
          let here : slice_get names p ≡ Some v = ap (slice_get names) same ∙ h.1.2 in
          let own : slice_get names p ≡ Some w = at-position names w p e in
          let one : v ≡ w = cc in
          ap (λ u. bytes_eq u w) one ∙ nat_list_eq_equiv.refl w

      back : IsTrue (bytes_eq v w) → (i : ℕ) × StandsAt names places i v
      back h =
          let same : v ≡ w = same_bytes v w h in
          (0, (p, ap (λ (l : List ℕ). slice_get l 0) is, at-position names w p e ∙ ap Some (sym same)))

  pub of-marks : (in_group : Membership) (n : Name) (marks : List Bool) (places : List ℕ) → ((v : Name) → in_group n v ≡ is_marked_name names marks v) → AreMarked marks (length names) places → AreOf in_group (operand.Group n) places
  of-marks in_group n marks places same are v = (λ h. forth h, λ h. back h)
    where
      forth : (i : ℕ) × StandsAt names places i v → IsTrue (in_group n v)
      forth h = same v ∙ marked-at names marks v h.1.0 (position-there names strict h.1.0 v h.1.2) ∙ (are.within h.0 h.1.0 h.1.1).1

      back : IsTrue (in_group n v) → (i : ℕ) × StandsAt names places i v
      back h =
          let p = marked-place names marks v (sym (same v) ∙ h) in
          let at = at-position names v p.0 p.1 in
          let i = are.all p.0 (slice_get_within names p.0 v at) p.2 in
          (i.0, (p.0, i.1, at))

  pub of-nobody : (in_group : Membership) (n : Name) (places : List ℕ) → ((v : Name) → in_group n v ≡ false) → places ≡ [] → AreOf in_group (operand.Group n) places
  of-nobody in_group n places none is v = (
    λ h. absurd (let there = subst (λ (l : List ℕ). slice_get l h.0 ≡ Some h.1.0) is h.1.1 in let low = slice_get_within {A = ℕ} [] h.0 h.1.0 there in omega arith),
    λ h. absurd (true≢false (sym h ∙ none v)),
  )

-- one place alone, and none
pub one-rises : (p : ℕ) (places : List ℕ) → places ≡ p ∷ [] → AreRisingPlaces places
one-rises p places is i k a b less h j = absurd (let there = subst (λ (l : List ℕ). slice_get l k ≡ Some b) is j in let low = slice_get_within (p ∷ []) k b there in omega arith)

pub one-within : (p count : ℕ) (places : List ℕ) → p < count → places ≡ p ∷ [] → ArePlaces count places
one-within p count places low is i place h =
    let there = subst (λ (l : List ℕ). slice_get l i ≡ Some place) is h in
    let within = slice_get_within (p ∷ []) i place there in
    let first : i ≡ 0 = omega arith in
    let at : Some p ≡ Some place = sym (ap (slice_get (p ∷ [])) first) ∙ there in
    let same : p ≡ place = cc in
    omega arith

pub none-rise : (places : List ℕ) → places ≡ [] → AreRisingPlaces places
none-rise places is i k a b less h j = absurd (let there = subst (λ (l : List ℕ). slice_get l k ≡ Some b) is j in let low = slice_get_within {A = ℕ} [] k b there in omega arith)

pub none-within : (count : ℕ) (places : List ℕ) → places ≡ [] → ArePlaces count places
none-within count places is i place h = absurd (let there = subst (λ (l : List ℕ). slice_get l i ≡ Some place) is h in let low = slice_get_within {A = ℕ} [] i place there in omega arith)

-- ---- marks that join others
module _ (names : List Name) (old new others : List Bool) (each : (place : ℕ) → place < length names → is_marked new place ≡ (is_marked old place || is_marked others place)) where
  pub marks-joined : (v : Name) → is_marked_name names new v ≡ (is_marked_name names old v || is_marked_name names others v)
  marks-joined v = by (position (bytes_eq v) names) refl
    where
      by : (o : Option ℕ) → position (bytes_eq v) names ≡ o → is_marked_name names new v ≡ (is_marked_name names old v || is_marked_name names others v)
      by None e = marked-nowhere names new v e ∙ sym (ap (λ b. b || is_marked_name names others v) (marked-nowhere names old v e) ∙ marked-nowhere names others v e)
      by (Some p) e =
          let low = slice_get_within names p v (at-position names v p e) in
          marked-at names new v p e ∙ each p low ∙ ap (λ b. b || is_marked others p) (sym (marked-at names old v p e)) ∙ ap (λ b. is_marked_name names old v || b) (sym (marked-at names others v p e))

-- what is marked in the first list, and for the first so many places what is marked in the others
pub record AreJoined (first marks others : List Bool) (count : ℕ) : Type 0 where
  pub len : length marks ≡ length first
  pub done : (place : ℕ) → place < count → is_marked marks place ≡ (is_marked first place || is_marked others place)
  pub left : (place : ℕ) → count ≤ place → is_marked marks place ≡ is_marked first place

pub or_false : (b : Bool) → (b || false) ≡ b
or_false true = refl
or_false false = refl

or_true : (b : Bool) → (b || true) ≡ true
or_true true = refl
or_true false = refl

pub or_other : (a b : Bool) → (a || b) ≡ (b || a)
or_other true true = refl
or_other true false = refl
or_other false true = refl
or_other false false = refl

pub joined-none : (first others : List Bool) → AreJoined first first others 0
joined-none first others = record { len = refl; done = λ place low. absurd (omega arith); left = λ place high. refl }

module _ (first marks others : List Bool) (count : ℕ) (so_far : AreJoined first marks others count) where
  at-count : (place : ℕ) → place < count + 1 → count ≤ place → place ≡ count
  at-count place low high = omega arith

  pub joined-skip : is_marked others count ≡ false → AreJoined first marks others (count + 1)
  joined-skip not = record {
    len = so_far.len;
    done = λ place low. by place low (cases_lt place count);
    left = λ place high. so_far.left place (omega arith);
  }
    where
      by : (place : ℕ) → place < count + 1 → (place < count) ⊎ (count ≤ place) → is_marked marks place ≡ (is_marked first place || is_marked others place)
      by place low (inl l) = so_far.done place l
      by place low (inr l) = so_far.left place l ∙ sym (or_false (is_marked first place)) ∙ ap (λ b. is_marked first place || b) (sym (ap (is_marked others) (at-count place low l) ∙ not))

  pub joined-set : is_marked others count ≡ true → count < length marks → AreJoined first (set marks count true) others (count + 1)
  joined-set here within = record {
    len = length-set marks count true ∙ so_far.len;
    done = λ place low. by place low (cases_lt place count);
    left = λ place high. get_or-set_other marks count place true false (λ e. omega arith) ∙ so_far.left place (omega arith);
  }
    where
      by : (place : ℕ) → place < count + 1 → (place < count) ⊎ (count ≤ place) → is_marked (set marks count true) place ≡ (is_marked first place || is_marked others place)
      by place low (inl l) = get_or-set_other marks count place true false (λ e. omega arith) ∙ so_far.done place l
      by place low (inr l) =
          let is : place ≡ count = at-count place low l in
          ap (is_marked (set marks count true)) is ∙ get_or-set_same marks count true false within ∙ sym (or_true (is_marked first place)) ∙ ap (λ b. is_marked first place || b) (sym (ap (is_marked others) is ∙ here))

-- ---- one operand's marks
module _ (names : List Name) (strict : IsStrictlySortedBy name_cmp names) where
  -- the mark of one name more
  pub marks-one : (marks : List Bool) (w : Name) (p : ℕ) → position (bytes_eq w) names ≡ Some p → p < length marks → (v : Name) → is_marked_name names (set marks p true) v ≡ (is_marked_name names marks v || same_name v w)
  marks-one marks w p e low v = by (position (bytes_eq v) names) refl
    where
      apart : (q : ℕ) → position (bytes_eq v) names ≡ Some q → (q ≡ p → ⊥) → same_name v w ≡ false
      apart q f other = elim (cases_Bool (bytes_eq v w)) [
        | inl same ↦ absurd (let one = same_bytes v w same in let both : Some q ≡ Some p = sym f ∙ ap (λ u. position (bytes_eq u) names) one ∙ e in other cc)
        | inr not ↦ not
      ]

      own : (q : ℕ) → position (bytes_eq v) names ≡ Some q → q ≡ p → same_name v w ≡ true
      own q f is =
          let at : slice_get names p ≡ Some v = sym (ap (slice_get names) is) ∙ at-position names v q f in
          let there = at-position names w p e in
          let one : v ≡ w = cc in
          ap (λ u. bytes_eq u w) one ∙ nat_list_eq_equiv.refl w

      nowhere : position (bytes_eq v) names ≡ None → same_name v w ≡ false
      nowhere f = elim (cases_Bool (bytes_eq v w)) [
        | inl same ↦ absurd (let one = same_bytes v w same in let both : None ≡ Some p = sym f ∙ ap (λ u. position (bytes_eq u) names) one ∙ e in cc)
        | inr not ↦ not
      ]

      at : (q : ℕ) → position (bytes_eq v) names ≡ Some q → (q ≡ p) ⊎ (q ≡ p → ⊥) → is_marked (set marks p true) q ≡ (is_marked marks q || same_name v w)
      at q f (inl is) = ap (is_marked (set marks p true)) is ∙ get_or-set_same marks p true false low ∙ sym (or_true (is_marked marks q)) ∙ ap (λ b. is_marked marks q || b) (sym (own q f is))
      at q f (inr other) = get_or-set_other marks p q true false other ∙ sym (or_false (is_marked marks q)) ∙ ap (λ b. is_marked marks q || b) (sym (apart q f other))

      by : (o : Option ℕ) → position (bytes_eq v) names ≡ o → is_marked_name names (set marks p true) v ≡ (is_marked_name names marks v || same_name v w)
      by None f = marked-nowhere names (set marks p true) v f ∙ sym (ap (λ b. b || same_name v w) (marked-nowhere names marks v f) ∙ nowhere f)
      by (Some q) f = marked-at names (set marks p true) v q f ∙ at q f (cases_eq q p) ∙ ap (λ b. b || same_name v w) (sym (marked-at names marks v q f))

-- the marks of one operand more
pub marks-more : (in_group : Membership) (operands : List Operand) (i : ℕ) (one : Operand) (old new : Name → Bool) → i < length operands → get_or operands i one ≡ one → ((v : Name) → old v ≡ some_stands_for in_group (take i operands) v) → ((v : Name) → new v ≡ (old v || stands_for in_group v one)) → (v : Name) → new v ≡ some_stands_for in_group (take (i + 1) operands) v
marks-more in_group operands i one old new low at so_far more v =
    more v
    ∙ ap (λ b. b || stands_for in_group v one) (so_far v)
    ∙ ap (λ o. some_stands_for in_group (take i operands) v || stands_for in_group v o) (sym at)
    ∙ sym (list_any_more (stands_for in_group v) operands i one low)

-- ---- those who join a group
module _ (names : List Name) (old new : Groups) (group : Name) (after : Vec Bool Global) (marks : Name → Bool) (put : (v : Name) → is_marked_name names after.items v ≡ (membership names old group v || marks v)) (own : get name_cmp new.members group ≡ Some after) (others : (n : Name) → is_eq (name_cmp group n) ≡ false → get name_cmp new.members n ≡ get name_cmp old.members n) where
  abbrev read : Name → Option (Vec Bool Global) → Bool
  read v found = option_map_or (λ members. is_marked_name names members.items v) found false

  here : (v : Name) → membership names new group v ≡ (membership names old group v || marks v)
  here v = ap (read v) own ∙ put v

  pub group-joined : (n v : Name) → membership names new n v ≡ (membership names old n v || (same_name n group && marks v))
  group-joined n v = by (bytes_eq n group) refl
    where
      by : (t : Bool) → bytes_eq n group ≡ t → membership names new n v ≡ (membership names old n v || (t && marks v))
      by true e =
          let same : n ≡ group = same_bytes n group e in
          ap (λ m. membership names new m v) same ∙ here v ∙ ap (λ m. membership names old m v || marks v) (sym same)
      by false e =
          let apart : is_eq (name_cmp group n) ≡ false = is_eq-slice_cmp group n ∙ nat_list_eq_equiv.symm group n ∙ e in
          ap (read v) (others n apart) ∙ sym (or_false (membership names old n v))

-- nothing is marked in an empty list
pub empty-marks : (names : List Name) (v : Name) → is_marked_name names [] v ≡ false
empty-marks names v = none-marked names 0 v
