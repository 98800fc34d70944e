-- What entries claim, the first places of numbers, and that the first spot is the first case.
use Rattle.std.proofs.Common.{◌≡◌, ℕ, ◌<◌, ◌≤◌, ◌+◌, true, false, List, [], ◌∷◌, ◌++◌, Option, Some, None, length, length-append, slice_get, get_or, bytes_eq, sym, ap, subst, ◌∙◌, arith, lit<, true≢false, unwrap_or, is_some, ◌||◌, inl, inr, ◌⊎◌, IsTrue}
use Rattle.std.specs.List.{position}
use Rattle.std.specs.Ordering.{nat_cmp, is_eq}
use Rattle.std.specs.BTreeMap.{get, BTreeMap}
use Rattle.std.proofs.lemmas.Bool.{cases_lt, cases_eq, or_cases, or_left, or_right}
use Rattle.std.proofs.lemmas.Option.{slice_get-get_or, slice_get_within, option_and_then_some}
use Rattle.tg_names.specs.declared.right_sets.Right.{Right}
use Rattle.tg_names.specs.declared.right_sets.Rights.{Rights}
use Rattle.tg_names.specs.Sets.{member, nothing, bit_of, IsNamed}
use Rattle.tg_names.specs.Names.{Name}
use Rattle.tg_analysis.specs.declared.cases.Claimed.{Claimed}
use Rattle.tg_index.specs.declared.by_target.Held.{Held}
use Rattle.tg_islands.specs.Numbering.{AreCounted, number_of}
use Rattle.tg_index.specs.HeldInto.{IsSaid}
use Rattle.tg_analysis.specs.Cases.{AreHeads, AreNumbersOf, IsClaim, IsClaimOf, IsClaimWithout, IsFirstInBoth, IsFirstWithout, IsLackOf, IsSoonest, IsSooner, IsWithout, JoinsUpTo, place_at, rights_under, sooner_of}
use Rattle.tg_islands.proofs.RowEnds.{behind-is, behind-keeps, behind-last}
use Rattle.tg_analysis.proofs.Reached.{nothing-has}
use Rattle.tg_analysis.proofs.NumberKeys.{apart}
use Rattle.tg_analysis.proofs.CaseOrder.{same_right, bit_below, soonest-two, soonest-same}

-- what a list is read to have behind its end
abbrev pub no_entry : Held
no_entry = record { number = 0; label = nothing }

-- ---- the soonest claim of entries
module _ (entry : Held) (places : List (Option ℕ)) (rights : Rights) where
  pub claim-none : IsFirstInBoth entry.label rights None → IsSoonest (IsClaimOf entry places rights) None
  claim-none none = λ right place c. none right (c.held, c.asked)

  pub claim-nowhere : place_at places entry.number ≡ None → IsSoonest (IsClaimOf entry places rights) None
  claim-nowhere none = λ right place c. absurd (let stands = c.stands in cc)

  pub claim-some : (right : Right) (place : ℕ) → IsFirstInBoth entry.label rights (Some right) → place_at places entry.number ≡ Some place → IsSoonest (IsClaimOf entry places rights) (Some (record { right = right; place = place }))
  claim-some right place first stands = (record { held = first.0.0; asked = first.0.1; stands = stands }, λ other at c s. by other at c s)
    where
      by : (other : Right) (at : ℕ) → IsClaimOf entry places rights other at → IsSooner other at right place → ⊥
      by other at c (inl less) = first.1 other (c.held, c.asked) less
      by other at c (inr b) =
          let same : at ≡ place = (let there = c.stands in cc) in
          let low = b.1 in omega arith

module _ (entries : List Held) (places : List (Option ℕ)) (rights : Rights) where
  pub no-claim : IsSoonest (IsClaim entries places rights 0) None
  no-claim = λ right place c. let low = c.low in omega arith

  pub claim-more : (count : ℕ) (entry : Held) (best next : Option Claimed) → slice_get entries count ≡ Some entry → IsSoonest (IsClaim entries places rights count) best → IsSoonest (IsClaimOf entry places rights) next → IsSoonest (IsClaim entries places rights (count + 1)) (sooner_of best next)
  claim-more count entry best next here first one = soonest-same (λ right place. IsClaim entries places rights count right place ⊎ IsClaimOf entry places rights right place) (IsClaim entries places rights (count + 1)) to from (sooner_of best next) (soonest-two (IsClaim entries places rights count) (IsClaimOf entry places rights) best next first one)
    where
      to : (right : Right) (place : ℕ) → IsClaim entries places rights count right place ⊎ IsClaimOf entry places rights right place → IsClaim entries places rights (count + 1) right place
      to right place (inl c) = record { index = c.index; low = (let low = c.low in omega arith); entry = c.entry; stands = c.stands; claim = c.claim }
      to right place (inr c) = record { index = count; low = omega arith; entry = entry; stands = here; claim = c }

      from : (right : Right) (place : ℕ) → IsClaim entries places rights (count + 1) right place → IsClaim entries places rights count right place ⊎ IsClaimOf entry places rights right place
      from right place c = by (cases_lt c.index count)
        where
          by : (c.index < count) ⊎ (count ≤ c.index) → IsClaim entries places rights count right place ⊎ IsClaimOf entry places rights right place
          by (inl l) = inl (record { index = c.index; low = l; entry = c.entry; stands = c.stands; claim = c.claim })
          by (inr l) =
              let is : c.index ≡ count = (let low = c.low in omega arith) in
              let both : Some c.entry ≡ Some entry = sym c.stands ∙ ap (slice_get entries) is ∙ here in
              let same : c.entry ≡ entry = cc in
              inr (subst (λ (e : Held). IsClaimOf e places rights right place) same c.claim)

-- ---- the rights that entries say
module _ (entries : List Held) where
  pub joins-none : (held : BTreeMap ℕ Rights) → ((q : ℕ) → get nat_cmp held q ≡ None) → JoinsUpTo entries 0 held
  joins-none held empty = record {
    named = λ number. subst IsNamed (sym (ap (λ o. unwrap_or o nothing) (empty number))) (lit< tt);
    members = λ number right. (
      λ m. absurd (nothing-has right (sym (ap (λ o. member (unwrap_or o nothing) right) (empty number)) ∙ m)),
      λ h. absurd (let low = h.1 in omega arith),
    );
  }

  module _ (count : ℕ) (entry : Held) (here : slice_get entries count ≡ Some entry) (old more : BTreeMap ℕ Rights) (label joined : Rights) (so_far : JoinsUpTo entries count old) where
    abbrev Says : ℕ → ℕ → Right → Type 0
    Says most number right = (index : ℕ) × (index < most) × (one : Held) × (slice_get entries index ≡ Some one) × (one.number ≡ number) × IsTrue (member one.label right)

    pub joins-more : ((right : Right) → member label right ≡ member entry.label right) → ((right : Right) → member joined right ≡ (member (rights_under old entry.number) right || member label right)) → IsNamed joined → get nat_cmp more entry.number ≡ Some joined → ((q : ℕ) → is_eq (nat_cmp entry.number q) ≡ false → get nat_cmp more q ≡ get nat_cmp old q) → JoinsUpTo entries (count + 1) more
    joins-more same has is_named new others = record {
      named = λ number. named number (cases_eq entry.number number);
      members = λ number right. (λ m. forth number right m (cases_eq entry.number number), λ h. back number right h (cases_eq entry.number number));
    }
      where
        own : (number : ℕ) → entry.number ≡ number → rights_under more number ≡ joined
        own number is = ap (λ n. rights_under more n) (sym is) ∙ ap (λ o. unwrap_or o nothing) new

        other : (number : ℕ) → (entry.number ≡ number → ⊥) → rights_under more number ≡ rights_under old number
        other number not = ap (λ o. unwrap_or o nothing) (others number (apart entry.number number not))

        named : (number : ℕ) → (entry.number ≡ number) ⊎ (entry.number ≡ number → ⊥) → IsNamed (rights_under more number)
        named number (inl is) = subst IsNamed (sym (own number is)) is_named
        named number (inr not) = subst IsNamed (sym (other number not)) (so_far.named number)

        later : (number : ℕ) (right : Right) → Says count number right → Says (count + 1) number right
        later number right h = (h.0, (let low = h.1 in omega arith), h.2, h.3, h.4, h.5)

        forth : (number : ℕ) (right : Right) → IsTrue (member (rights_under more number) right) → (entry.number ≡ number) ⊎ (entry.number ≡ number → ⊥) → Says (count + 1) number right
        forth number right m (inr not) = later number right ((so_far.members number right).0 (sym (ap (λ s. member s right) (other number not)) ∙ m))
        forth number right m (inl is) = by (or_cases (member (rights_under old entry.number) right) (member label right) (sym (has right) ∙ sym (ap (λ s. member s right) (own number is)) ∙ m))
          where
            by : (member (rights_under old entry.number) right ≡ true) ⊎ (member label right ≡ true) → Says (count + 1) number right
            by (inl h) = later number right ((so_far.members number right).0 (ap (λ n. member (rights_under old n) right) (sym is) ∙ h))
            by (inr h) = (count, omega arith, entry, here, is, sym (same right) ∙ h)

        back : (number : ℕ) (right : Right) → Says (count + 1) number right → (entry.number ≡ number) ⊎ (entry.number ≡ number → ⊥) → IsTrue (member (rights_under more number) right)
        back number right h is = by is (cases_lt h.0 count)
          where
            before : h.0 < count → IsTrue (member (rights_under old number) right)
            before low = (so_far.members number right).1 (h.0, low, h.2, h.3, h.4, h.5)

            -- the last entry is this one
            last : count ≤ h.0 → (entry.number ≡ number) × IsTrue (member entry.label right)
            last high =
                let at : h.0 ≡ count = (let low = h.1 in omega arith) in
                let both : Some h.2 ≡ Some entry = sym h.3 ∙ ap (slice_get entries) at ∙ here in
                let one : h.2 ≡ entry = cc in
                (ap (λ (e : Held). e.number) (sym one) ∙ h.4, ap (λ (e : Held). member e.label right) (sym one) ∙ h.5)

            by : (entry.number ≡ number) ⊎ (entry.number ≡ number → ⊥) → (h.0 < count) ⊎ (count ≤ h.0) → IsTrue (member (rights_under more number) right)
            by (inl is) (inl low) = ap (λ s. member s right) (own number is) ∙ has right ∙ or_left (member (rights_under old entry.number) right) _ (ap (λ n. member (rights_under old n) right) is ∙ before low)
            by (inl is) (inr high) = ap (λ s. member s right) (own number is) ∙ has right ∙ or_right (member (rights_under old entry.number) right) _ (same right ∙ (last high).1)
            by (inr not) (inl low) = ap (λ s. member s right) (other number not) ∙ before low
            by (inr not) (inr high) = absurd (not (last high).0)

-- ---- the numbers of islands
module _ (vertices : List Name) (islands : List ℕ) (names : List Name) where
  pub numbers-more : (count : ℕ) (numbers more : List ℕ) (n : ℕ) (v : Name) → AreNumbersOf vertices islands names count numbers → slice_get names count ≡ Some v → number_of vertices islands v ≡ Some n → more ≡ numbers ++ n ∷ [] → AreNumbersOf vertices islands names (count + 1) more
  numbers-more count numbers more n v so_far at found is = record {
    len = ap length is ∙ length-append numbers (n ∷ []) ∙ ap (λ m. m + 1) so_far.len;
    each = λ i m u h k. each i m u k (behind-is ℕ numbers n i m (subst (λ (l : List ℕ). slice_get l i ≡ Some m) is h));
  }
    where
      each : (i m : ℕ) (u : Name) → slice_get names i ≡ Some u → (slice_get numbers i ≡ Some m) ⊎ ((i ≡ length numbers) × (m ≡ n)) → number_of vertices islands u ≡ Some m
      each i m u k (inl h) = so_far.each i m u h k
      each i m u k (inr h) =
          let here : i ≡ count = h.0 ∙ so_far.len in
          let both : Some u ≡ Some v = sym k ∙ ap (slice_get names) here ∙ at in
          let same : u ≡ v = cc in
          ap (number_of vertices islands) same ∙ found ∙ ap Some (sym h.1)

  -- each number is below the count of the islands
  pub numbers-below : (count : ℕ) (numbers : List ℕ) (islands_count : ℕ) → AreNumbersOf vertices islands names count numbers → count ≤ length names → AreCounted islands islands_count → (k n : ℕ) → slice_get numbers k ≡ Some n → n < islands_count
  numbers-below count numbers islands_count are low counted k n h =
      let within = slice_get_within numbers k n h in
      let v = get_or names k [] in
      let at = slice_get-get_or names k [] (omega (arith, are.len)) in
      option_and_then_some (λ place. slice_get islands place) (position (bytes_eq v) vertices) n (are.each k n v h at) (λ place p q. counted.below place n q)

-- ---- first places
module _ (numbers : List ℕ) where
  pub heads-none : (places : List (Option ℕ)) → ((q : ℕ) → place_at places q ≡ None) → AreHeads numbers 0 places []
  heads-none places empty = record {
    stands = λ number place h. absurd (let none = empty number in cc);
    there = λ number place low h. absurd (omega arith);
    listed = λ number first h. absurd (let none = empty number in cc);
    heads = λ t place h. absurd (let low = slice_get_within {A = ℕ} [] t place h in omega arith);
    within = λ t place h. absurd (let low = slice_get_within {A = ℕ} [] t place h in omega arith);
    rising = λ s t a b l h k. absurd (let low = slice_get_within {A = ℕ} [] s a h in omega arith);
  }

  module _ (position number : ℕ) (here : slice_get numbers position ≡ Some number) (places : List (Option ℕ)) (order : List ℕ) (so_far : AreHeads numbers position places order) where
    number-is : (n place : ℕ) → place ≡ position → slice_get numbers place ≡ Some n → n ≡ number
    number-is n place is at = let there = sym (ap (slice_get numbers) is) ∙ at in cc

    pub heads-known : (first : ℕ) → place_at places number ≡ Some first → AreHeads numbers (position + 1) places order
    heads-known first found = record {
      stands = λ n place h. let s = so_far.stands n place h in ((let low = s.0 in omega arith), s.1);
      there = λ n place low at. by n place low at (cases_lt place position);
      listed = so_far.listed;
      heads = so_far.heads;
      within = λ t place h. let low = so_far.within t place h in omega arith;
      rising = so_far.rising;
    }
      where
        by : (n place : ℕ) → place < position + 1 → slice_get numbers place ≡ Some n → (place < position) ⊎ (position ≤ place) → (head : ℕ) × (head ≤ place) × (place_at places n ≡ Some head)
        by n place low at (inl l) = so_far.there n place l at
        by n place low at (inr l) =
            let is : place ≡ position = omega arith in
            let before = (so_far.stands number first found).0 in
            (first, omega arith, ap (place_at places) (number-is n place is at) ∙ found)

    pub heads-new : (more : List (Option ℕ)) (longer : List ℕ) → place_at places number ≡ None → place_at more number ≡ Some position → ((q : ℕ) → (number ≡ q → ⊥) → place_at more q ≡ place_at places q) → longer ≡ order ++ position ∷ [] → AreHeads numbers (position + 1) more longer
    heads-new more longer absent new others is = record {
      stands = λ n place h. stands n place h (cases_eq number n);
      there = λ n place low at. there n place low at (cases_lt place position);
      listed = λ n head h. listed n head h (cases_eq number n);
      heads = λ t place h. heads t place (behind-is ℕ order position t place (longer-at t place h));
      within = λ t place h. within t place (behind-is ℕ order position t place (longer-at t place h));
      rising = λ s t a b less h k. rising s t a b less (behind-is ℕ order position s a (longer-at s a h)) (behind-is ℕ order position t b (longer-at t b k)) k;
    }
      where
        longer-at : (t place : ℕ) → slice_get longer t ≡ Some place → slice_get (order ++ position ∷ []) t ≡ Some place
        longer-at t place h = subst (λ (l : List ℕ). slice_get l t ≡ Some place) is h

        old : (n head : ℕ) → (number ≡ n → ⊥) → place_at more n ≡ Some head → place_at places n ≡ Some head
        old n head other h = sym (others n other) ∙ h

        own : (n head : ℕ) → number ≡ n → place_at more n ≡ Some head → position ≡ head
        own n head same h = let both = sym new ∙ ap (place_at more) same ∙ h in cc

        stands : (n place : ℕ) → place_at more n ≡ Some place → (number ≡ n) ⊎ (number ≡ n → ⊥) → (place < position + 1) × (slice_get numbers place ≡ Some n)
        stands n place h (inl same) =
            let at = own n place same h in
            (omega arith, sym (ap (slice_get numbers) at) ∙ here ∙ ap Some same)
        stands n place h (inr other) = let s = so_far.stands n place (old n place other h) in ((let low = s.0 in omega arith), s.1)

        there : (n place : ℕ) → place < position + 1 → slice_get numbers place ≡ Some n → (place < position) ⊎ (position ≤ place) → (head : ℕ) × (head ≤ place) × (place_at more n ≡ Some head)
        there n place low at (inl l) = kept (so_far.there n place l at)
          where
            kept : (head : ℕ) × (head ≤ place) × (place_at places n ≡ Some head) → (head : ℕ) × (head ≤ place) × (place_at more n ≡ Some head)
            kept (head, most, found) = (head, most, others n (λ same. absurd (let both = sym absent ∙ ap (place_at places) same ∙ found in cc)) ∙ found)
        there n place low at (inr l) =
            let same : place ≡ position = omega arith in
            (position, omega arith, ap (place_at more) (number-is n place same at) ∙ new)

        listed : (n head : ℕ) → place_at more n ≡ Some head → (number ≡ n) ⊎ (number ≡ n → ⊥) → (t : ℕ) × (slice_get longer t ≡ Some head)
        listed n head h (inl same) = (length order, subst (λ (l : List ℕ). slice_get l (length order) ≡ Some head) (sym is) (behind-last ℕ order position ∙ ap Some (own n head same h)))
        listed n head h (inr other) = let t = so_far.listed n head (old n head other h) in (t.0, subst (λ (l : List ℕ). slice_get l t.0 ≡ Some head) (sym is) (behind-keeps ℕ order position t.0 head t.1))

        kept : (head : ℕ) → (n : ℕ) × (place_at places n ≡ Some head) → (n : ℕ) × (place_at more n ≡ Some head)
        kept head (n, found) = (n, others n (λ same. absurd (let both = sym absent ∙ ap (place_at places) same ∙ found in cc)) ∙ found)

        heads : (t place : ℕ) → (slice_get order t ≡ Some place) ⊎ ((t ≡ length order) × (place ≡ position)) → (n : ℕ) × (place_at more n ≡ Some place)
        heads t place (inl h) = kept place (so_far.heads t place h)
        heads t place (inr h) = (number, new ∙ ap Some (sym h.1))

        within : (t place : ℕ) → (slice_get order t ≡ Some place) ⊎ ((t ≡ length order) × (place ≡ position)) → place < position + 1
        within t place (inl h) = let low = so_far.within t place h in omega arith
        within t place (inr h) = let same = h.1 in omega arith

        rising : (s t a b : ℕ) → s < t → (slice_get order s ≡ Some a) ⊎ ((s ≡ length order) × (a ≡ position)) → (slice_get order t ≡ Some b) ⊎ ((t ≡ length order) × (b ≡ position)) → slice_get longer t ≡ Some b → a < b
        rising s t a b less (inl h) (inl k) at = so_far.rising s t a b less h k
        rising s t a b less (inl h) (inr k) at = let low = so_far.within s a h in let same = k.1 in omega arith
        rising s t a b less (inr h) (inl k) at = absurd (let first = h.0 in let low = slice_get_within order t b k in omega arith)
        rising s t a b less (inr h) (inr k) at = absurd (let first = h.0 in let second = k.0 in omega arith)

-- ---- the first place of an island that lacks a right
module _ (entries : List Held) (numbers places : List ℕ) (right : Right) where
  -- none of the first so many places is of an island that lacks the right
  abbrev pub NoneWithout : ℕ → Type 0
  NoneWithout count = (s place : ℕ) → s < count → slice_get places s ≡ Some place → IsWithout entries numbers right place → ⊥

  pub none-without-more : (index place number : ℕ) → slice_get places index ≡ Some place → slice_get numbers place ≡ Some number → IsSaid entries right number → NoneWithout index → NoneWithout (index + 1)
  none-without-more index place number at of has none s other low h lacks = by (cases_lt s index)
    where
      by : (s < index) ⊎ (index ≤ s) → ⊥
      by (inl l) = none s other l h lacks
      by (inr l) =
          let is : s ≡ index = omega arith in
          let both : Some other ≡ Some place = sym h ∙ ap (slice_get places) is ∙ at in
          let same : other ≡ place = cc in
          let numbered : Some lacks.0 ≡ Some number = sym lacks.1 ∙ ap (slice_get numbers) same ∙ of in
          let one : lacks.0 ≡ number = cc in
          lacks.2 (subst (λ n. IsSaid entries right n) (sym one) has)

  pub none-without-all : (count : ℕ) → length places ≤ count → NoneWithout count → IsFirstWithout entries numbers places right None
  none-without-all count all none = λ t place h lacks. none t place (let low = slice_get_within places t place h in omega arith) h lacks

-- ---- the soonest lack
-- no right in front of this one is lacked
abbrev pub NoneLacks : List Held → List ℕ → Rights → ℕ → Type 0
NoneLacks entries numbers rights count = (right : Right) (place : ℕ) → bit_of right < count → IsLackOf entries numbers rights right place → ⊥

module _ (entries : List Held) (numbers : List ℕ) (rights : Rights) (places : List (Option ℕ)) (order : List ℕ) (heads : AreHeads numbers (length numbers) places order) where
  -- where an island lacks a right, its first place is listed
  lack_head : (right : Right) (place : ℕ) → IsLackOf entries numbers rights right place → (t : ℕ) × (first : ℕ) × (slice_get order t ≡ Some first) × (first ≤ place) × IsWithout entries numbers right first
  lack_head right place lack =
      let head = heads.there lack.number place (slice_get_within numbers place lack.number lack.stands) lack.stands in
      let t = heads.listed lack.number head.0 head.2 in
      (t.0, head.0, t.1, head.1, (lack.number, (heads.stands lack.number head.0 head.2).1, lack.lacks))

  none_without : (right : Right) (place : ℕ) → IsClaimWithout entries numbers order rights right None → IsLackOf entries numbers rights right place → ⊥
  none_without right place none lack = let h = lack_head right place lack in none lack.asked h.0 h.1 h.2 h.4

  pub none-lacks : (count : ℕ) (right : Right) → NoneLacks entries numbers rights count → bit_of right ≡ count → IsClaimWithout entries numbers order rights right None → NoneLacks entries numbers rights (count + 1)
  none-lacks count right before is none other place low lack = by (cases_lt (bit_of other) count)
    where
      by : (bit_of other < count) ⊎ (count ≤ bit_of other) → ⊥
      by (inl l) = before other place l lack
      by (inr l) =
          let same : other ≡ right = same_right other right (omega arith) in
          none_without right place none (subst (λ r. IsLackOf entries numbers rights r place) same lack)

  pub lack-soonest : (count : ℕ) (right : Right) (found : Claimed) → NoneLacks entries numbers rights count → bit_of right ≡ count → IsClaimWithout entries numbers order rights right (Some found) → IsSoonest (IsLackOf entries numbers rights) (Some found)
  lack-soonest count right found before is claim = (lack, λ other place l s. by other place l s)
    where
      without : IsWithout entries numbers right found.place
      without = claim.2.2

      lack : IsLackOf entries numbers rights found.right found.place
      lack = record {
        number = without.0;
        stands = without.1;
        asked = subst (λ r. IsTrue (member rights r)) (sym claim.0) claim.1;
        lacks = λ s. without.2 (subst (λ r. IsSaid entries r without.0) claim.0 s);
      }

      -- of the same right none stands in front
      ahead : (place : ℕ) → IsLackOf entries numbers rights right place → place < found.place → ⊥
      ahead place l less = cases (lack_head right place l)
        where
          cases : (t : ℕ) × (first : ℕ) × (slice_get order t ≡ Some first) × (first ≤ place) × IsWithout entries numbers right first → ⊥
          cases (t, first, stands, low, lacks) = by_place (cases_lt t claim.2.0) (cases_lt claim.2.0 t)
            where
              by_place : (t < claim.2.0) ⊎ (claim.2.0 ≤ t) → (claim.2.0 < t) ⊎ (t ≤ claim.2.0) → ⊥
              by_place (inl front) k = claim.2.3 t first front stands lacks
              by_place (inr high) (inl over) = let rises = heads.rising claim.2.0 t found.place first over claim.2.1 stands in omega arith
              by_place (inr high) (inr most) =
                  let at : t ≡ claim.2.0 = omega arith in
                  let both : Some first ≡ Some found.place = sym stands ∙ ap (slice_get order) at ∙ claim.2.1 in
                  let same : first ≡ found.place = cc in
                  omega arith

      by : (other : Right) (place : ℕ) → IsLackOf entries numbers rights other place → IsSooner other place found.right found.place → ⊥
      by other place l (inl less) = let bits = ap bit_of claim.0 in before other place (omega arith) l
      by other place l (inr s) =
          let same : other ≡ right = s.0 ∙ claim.0 in
          ahead place (subst (λ r. IsLackOf entries numbers rights r place) same l) s.1

  pub lack-some : (count : ℕ) (right : Right) (claim : Option Claimed) → NoneLacks entries numbers rights count → bit_of right ≡ count → IsClaimWithout entries numbers order rights right claim → is_some claim ≡ true → IsSoonest (IsLackOf entries numbers rights) claim
  lack-some count right None before is claim h = absurd (true≢false (sym h))
  lack-some count right (Some found) before is claim h = lack-soonest count right found before is claim

  pub lack-none : (count : ℕ) (right : Right) (claim : Option Claimed) → NoneLacks entries numbers rights count → bit_of right ≡ count → IsClaimWithout entries numbers order rights right claim → is_some claim ≡ false → NoneLacks entries numbers rights (count + 1)
  lack-none count right None before is claim h = none-lacks count right before is claim
  lack-none count right (Some found) before is claim h = absurd (true≢false h)

  pub none-at-all : NoneLacks entries numbers rights 7 → IsSoonest (IsLackOf entries numbers rights) None
  none-at-all none = λ right place lack. none right place (bit_below right) lack
