-- The members of islands by the places of their names.
use Rattle.std.proofs.Common.{◌≡◌, ℕ, ◌<◌, ◌≤◌, ◌+◌, Bool, true, false, List, set, replicate, Option, Some, None, length, length-set, slice_get, sym, ap, subst, ◌∙◌, arith, inl, inr, ◌⊎◌}
use Rattle.std.proofs.lemmas.Bool.{cases_lt, cases_eq}
use Rattle.std.proofs.lemmas.List.{get_or-set_same, get_or-set_other, get_or-replicate, get_or_past, length-replicate}
use Rattle.std.proofs.lemmas.Option.{slice_get_within}
use Rattle.tg_analysis.specs.Cases.{place_at, IsLeastFrom, AreMembersFrom, IsFirstBeyond}

-- so many places that are not there
pub empty-places : (count n : ℕ) → place_at (replicate count None) n ≡ None
empty-places count n = by (cases_lt n count)
  where
    by : (n < count) ⊎ (count ≤ n) → place_at (replicate count None) n ≡ None
    by (inl low) = get_or-replicate count n None None low
    by (inr high) = get_or_past (replicate count None) n None (omega (arith, length-replicate {A = Option ℕ} count None))

-- ---- one place more in front
module _ (numbers : List ℕ) where
  -- no number stands behind the last place
  pub members-none : (firsts nexts : List (Option ℕ)) → length nexts ≡ length numbers → ((n : ℕ) → place_at firsts n ≡ None) → AreMembersFrom numbers (length numbers) firsts nexts
  members-none firsts nexts len empty = record {
    len = len;
    first = λ n. subst (IsLeastFrom numbers n (length numbers)) (sym (empty n)) (λ k past h. let low = slice_get_within numbers k n h in omega arith);
    next = λ place n past h. absurd (let low = slice_get_within numbers place n h in omega arith);
  }

  -- a place at which the number does not stand
  least-before : (n position : ℕ) (o : Option ℕ) → (slice_get numbers position ≡ Some n → ⊥) → IsLeastFrom numbers n (position + 1) o → IsLeastFrom numbers n position o
  least-before n position None not least = λ k past h. by k past h (cases_lt position k)
    where
      by : (k : ℕ) → position ≤ k → slice_get numbers k ≡ Some n → (position < k) ⊎ (k ≤ position) → ⊥
      by k past h (inl over) = least k (omega arith) h
      by k past h (inr most) = let same : k ≡ position = omega arith in not (subst (λ m. slice_get numbers m ≡ Some n) same h)
  least-before n position (Some place) not least = ((let low = least.0 in omega arith), least.1, λ k past h. by k past h (cases_lt position k))
    where
      by : (k : ℕ) → position ≤ k → slice_get numbers k ≡ Some n → (position < k) ⊎ (k ≤ position) → place ≤ k
      by k past h (inl over) = least.2 k (omega arith) h
      by k past h (inr most) = absurd (let same : k ≡ position = omega arith in not (subst (λ m. slice_get numbers m ≡ Some n) same h))

  module _ (position number : ℕ) (here : slice_get numbers position ≡ Some number) (firsts nexts : List (Option ℕ)) (so_far : AreMembersFrom numbers (position + 1) firsts nexts) (within : number < length firsts) where
    pub members-more : AreMembersFrom numbers position (set firsts number (Some position)) (set nexts position (place_at firsts number))
    members-more = record {
      len = length-set nexts position (place_at firsts number) ∙ so_far.len;
      first = λ n. first n (cases_eq n number);
      next = λ place n past h. next place n past h (cases_eq place position);
    }
      where
        first : (n : ℕ) → (n ≡ number) ⊎ (n ≡ number → ⊥) → IsLeastFrom numbers n position (place_at (set firsts number (Some position)) n)
        first n (inl is) = subst (λ m. IsLeastFrom numbers m position (place_at (set firsts number (Some position)) m)) (sym is) (subst (IsLeastFrom numbers number position) (sym (get_or-set_same firsts number (Some position) None within)) (omega arith, here, λ k past h. past))
        first n (inr other) = subst (IsLeastFrom numbers n position) (sym (get_or-set_other firsts number n (Some position) None other)) (least-before n position (place_at firsts n) (λ h. other (let both = sym h ∙ here in cc)) (so_far.first n))

        next : (place n : ℕ) → position ≤ place → slice_get numbers place ≡ Some n → (place ≡ position) ⊎ (place ≡ position → ⊥) → IsLeastFrom numbers n (place + 1) (place_at (set nexts position (place_at firsts number)) place)
        next place n past h (inl is) =
            let room : position < length nexts = (let low = slice_get_within numbers position number here in let same = so_far.len in omega arith) in
            let there : slice_get numbers position ≡ Some n = sym (ap (slice_get numbers) is) ∙ h in
            let own : n ≡ number = cc in
            let read : place_at (set nexts position (place_at firsts number)) place ≡ place_at firsts number = ap (place_at (set nexts position (place_at firsts number))) is ∙ get_or-set_same nexts position (place_at firsts number) None room in
            subst (IsLeastFrom numbers n (place + 1)) (sym read) (subst (λ m. IsLeastFrom numbers m (place + 1) (place_at firsts number)) (sym own) (subst (λ m. IsLeastFrom numbers number (m + 1) (place_at firsts number)) (sym is) (so_far.first number)))
        next place n past h (inr other) = subst (IsLeastFrom numbers n (place + 1)) (sym (get_or-set_other nexts position place (place_at firsts number) None other)) (so_far.next place n (omega arith) h)

-- ---- the first that is not allowed
-- those in front of the position are allowed, and the next stands first from there on
pub record IsPassed (numbers : List ℕ) (is_allowed : ℕ → Bool) (n count : ℕ) (next : Option ℕ) : Type 0 where
  pub position : ℕ
  pub past : count ≤ position
  pub allowed : (k : ℕ) → k < position → slice_get numbers k ≡ Some n → is_allowed k ≡ true
  pub least : IsLeastFrom numbers n position next

module _ (numbers : List ℕ) (is_allowed : ℕ → Bool) (n : ℕ) where
  pub passed-first : (first : Option ℕ) → IsLeastFrom numbers n 0 first → IsPassed numbers is_allowed n 0 first
  passed-first first least = record { position = 0; past = omega arith; allowed = λ k low h. absurd (omega arith); least = least }

  pub passed-all : (count : ℕ) → IsPassed numbers is_allowed n count None → IsFirstBeyond numbers is_allowed n None
  passed-all count p = λ k h. by k h (cases_lt k p.position)
    where
      by : (k : ℕ) → slice_get numbers k ≡ Some n → (k < p.position) ⊎ (p.position ≤ k) → is_allowed k ≡ true
      by k h (inl low) = p.allowed k low h
      by k h (inr high) = absurd (p.least k high h)

  pub passed-end : (count : ℕ) (next : Option ℕ) → length numbers ≤ count → IsPassed numbers is_allowed n count next → IsFirstBeyond numbers is_allowed n None
  passed-end count next all p = λ k h. p.allowed k (let low = slice_get_within numbers k n h in let past = p.past in omega arith) h

  pub passed-to : (count place : ℕ) → IsPassed numbers is_allowed n count (Some place) → is_allowed place ≡ false → IsFirstBeyond numbers is_allowed n (Some place)
  passed-to count place p not = (p.least.1, not, λ k low h. by k low h (cases_lt k p.position))
    where
      by : (k : ℕ) → k < place → slice_get numbers k ≡ Some n → (k < p.position) ⊎ (p.position ≤ k) → is_allowed k ≡ true
      by k less h (inl low) = p.allowed k low h
      by k less h (inr high) = absurd (let least = p.least.2 k high h in omega arith)

  pub passed-more : (count place : ℕ) (next : Option ℕ) → IsPassed numbers is_allowed n count (Some place) → is_allowed place ≡ true → IsLeastFrom numbers n (place + 1) next → IsPassed numbers is_allowed n (count + 1) next
  passed-more count place next p ok least = record {
    position = place + 1;
    past = (let low = p.past in let high = p.least.0 in omega arith);
    allowed = λ k low h. by k low h (cases_lt k p.position);
    least = least;
  }
    where
      by : (k : ℕ) → k < place + 1 → slice_get numbers k ≡ Some n → (k < p.position) ⊎ (p.position ≤ k) → is_allowed k ≡ true
      by k low h (inl front) = p.allowed k front h
      by k low h (inr high) =
          let same : k ≡ place = (let least = p.least.2 k high h in omega arith) in
          ap is_allowed same ∙ ok
