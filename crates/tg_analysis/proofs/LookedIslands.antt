-- The islands that were looked at.
use Rattle.std.proofs.Common.{◌≡◌, ℕ, ◌<◌, ◌≤◌, ◌+◌, Bool, true, false, List, set, replicate, Option, Some, None, length, slice_get, sym, ap, subst, ◌∙◌, arith, true≢false, inl, inr, ◌⊎◌}
use Rattle.std.proofs.lemmas.Bool.{cases_eq, cases_lt}
use Rattle.std.proofs.lemmas.List.{get_or-set_same, get_or-set_other, get_or-replicate, get_or_past, length-replicate}
use Rattle.tg_index.specs.declared.by_target.Held.{Held}
use Rattle.tg_analysis.specs.declared.case_index.Beyond.{Beyond}
use Rattle.tg_analysis.specs.Cases.{is_marked, place_at, IsFirstBeyond, HasLooked}

-- none of so many is marked
pub unmarked : (count n : ℕ) → is_marked (replicate count false) n ≡ false
unmarked count n = by (cases_lt n count)
  where
    by : (n < count) ⊎ (count ≤ n) → is_marked (replicate count false) n ≡ false
    by (inl low) = get_or-replicate count n false false low
    by (inr high) = get_or_past (replicate count false) n false (omega (arith, length-replicate {A = Bool} count false))

-- no island was looked at
pub looks-none : (numbers : List ℕ) (is_allowed : ℕ → Bool) (beyond : Beyond) (count : ℕ) → beyond.looked.items ≡ replicate count false → HasLooked numbers is_allowed beyond
looks-none numbers is_allowed beyond count empty = record {
  looked = λ n h. absurd (true≢false (sym h ∙ ap (λ marks. is_marked marks n) empty ∙ unmarked count n));
}

-- a place that is marked stays so, and another one becomes so
pub marks-keep : (marks : List Bool) (n k : ℕ) → n < length marks → is_marked marks k ≡ true → is_marked (set marks n true) k ≡ true
marks-keep marks n k low h = by (cases_eq k n)
  where
    by : (k ≡ n) ⊎ (k ≡ n → ⊥) → is_marked (set marks n true) k ≡ true
    by (inl is) = ap (is_marked (set marks n true)) is ∙ get_or-set_same marks n true false low
    by (inr other) = get_or-set_other marks n k true false other ∙ h

-- an island that was not looked at before
module _ (numbers : List ℕ) (is_allowed : ℕ → Bool) (old new : Beyond) (n : ℕ) (found : Option ℕ) (has : HasLooked numbers is_allowed old) (first : IsFirstBeyond numbers is_allowed n found) (low : n < length old.places.items) (marks : new.looked.items ≡ set old.looked.items n true) (places : new.places.items ≡ set old.places.items n found) where
  pub looks-more : HasLooked numbers is_allowed new
  looks-more = record { looked = λ q h. looked q h (cases_eq q n) }
    where
      at : (q : ℕ) → place_at new.places.items q ≡ place_at (set old.places.items n found) q
      at q = ap (λ list. place_at list q) places

      looked : (q : ℕ) → is_marked new.looked.items q ≡ true → (q ≡ n) ⊎ (q ≡ n → ⊥) → IsFirstBeyond numbers is_allowed q (place_at new.places.items q)
      looked q h (inl is) = subst (λ m. IsFirstBeyond numbers is_allowed m (place_at new.places.items m)) (sym is) (subst (IsFirstBeyond numbers is_allowed n) (sym (at n ∙ get_or-set_same old.places.items n found None low)) first)
      looked q h (inr other) =
          let before = sym (get_or-set_other old.looked.items n q true false other) ∙ sym (ap (λ list. is_marked list q) marks) ∙ h in
          subst (IsFirstBeyond numbers is_allowed q) (sym (at q ∙ get_or-set_other old.places.items n q found None other)) (has.looked q before)

-- the islands of one entry more
pub all-looked-more : (entries : List Held) (count bound : ℕ) (entry : Held) (old new : List Bool) → slice_get entries count ≡ Some entry → ((place : ℕ) (one : Held) → place < count → slice_get entries place ≡ Some one → one.number < bound → is_marked old one.number ≡ true) → ((n : ℕ) → is_marked old n ≡ true → is_marked new n ≡ true) → (entry.number < bound → is_marked new entry.number ≡ true) → (place : ℕ) (one : Held) → place < count + 1 → slice_get entries place ≡ Some one → one.number < bound → is_marked new one.number ≡ true
all-looked-more entries count bound entry old new here before kept last place one low h within = by (cases_lt place count)
  where
    by : (place < count) ⊎ (count ≤ place) → is_marked new one.number ≡ true
    by (inl l) = kept one.number (before place one l h within)
    by (inr l) =
        let is : place ≡ count = omega arith in
        let both : Some one ≡ Some entry = sym h ∙ ap (slice_get entries) is ∙ here in
        let same : one ≡ entry = cc in
        subst (λ (e : Held). e.number < bound → is_marked new e.number ≡ true) (sym same) last within

-- where the islands of the entries were looked at, each place is that of a first member: an island with a number past the bound has none
pub first-of-each : (numbers : List ℕ) (is_allowed : ℕ → Bool) (beyond : Beyond) (entries : List Held) → HasLooked numbers is_allowed beyond → ((k n : ℕ) → slice_get numbers k ≡ Some n → n < length beyond.places.items) → ((place : ℕ) (entry : Held) → slice_get entries place ≡ Some entry → entry.number < length beyond.places.items → is_marked beyond.looked.items entry.number ≡ true) → (place : ℕ) (entry : Held) → slice_get entries place ≡ Some entry → IsFirstBeyond numbers is_allowed entry.number (place_at beyond.places.items entry.number)
first-of-each numbers is_allowed beyond entries has below looked place entry h = by (cases_lt entry.number (length beyond.places.items))
  where
    by : (entry.number < length beyond.places.items) ⊎ (length beyond.places.items ≤ entry.number) → IsFirstBeyond numbers is_allowed entry.number (place_at beyond.places.items entry.number)
    by (inl low) = has.looked entry.number (looked place entry h low)
    by (inr high) = subst (IsFirstBeyond numbers is_allowed entry.number) (sym (get_or_past beyond.places.items entry.number None high)) (λ k at. absurd (let low = below k entry.number at in omega arith))
