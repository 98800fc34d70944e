-- Entries in rising order of their numbers, and a search among them.
use Rattle.std.proofs.Common.{◌≡◌, ℕ, ◌<◌, ◌≤◌, ◌↔◌, List, Option, Some, None, Ok, Err, option_map, map, length, slice_get, get_or, refl, sym, ap, ◌∙◌, arith, inl, inr, ◌⊎◌, IsTrue}
use Rattle.std.specs.Map.{keys_of}
use Rattle.std.specs.BTreeMap.{BTreeMap, IsOrdered}
use Rattle.std.specs.List.Sorted.{IsSearchInRange, IsBinarySearchResult, IsNonDecreasingBy}
use Rattle.std.specs.Ordering.{nat_cmp, ordering_index}
use Rattle.std.proofs.lemmas.Bool.{cases_lt}
use Rattle.std.proofs.lemmas.Bool.Decides.{nat_tests}
use Rattle.std.proofs.lemmas.Cmp.{ranked}
use Rattle.std.proofs.lemmas.List.Sorted.{IsNonDecreasingBy-from_default}
use Rattle.std.proofs.lemmas.Map.Keys.{below_from_sorted}
use Rattle.std.proofs.lemmas.Option.{slice_get-get_or, slice_get_within, slice_get-map}
use Rattle.tg_names.specs.declared.right_sets.Right.{Right}
use Rattle.tg_names.specs.declared.right_sets.Rights.{Rights}
use Rattle.tg_names.specs.Sets.{member, nothing}
use Rattle.tg_index.specs.declared.by_target.Held.{Held}
use Rattle.tg_index.specs.HeldInto.{IsSaid}
use Rattle.tg_analysis.specs.Cases.{AreRising}
use Rattle.tg_analysis.proofs.Claims.{no_entry}
use Rattle.tg_analysis.proofs.HeldEntries.{entry_of}
use Rattle.tg_analysis.proofs.Reached.{nothing-has}

-- ---- the entries of sums
key-at : (es : List (ℕ × Rights)) (i : ℕ) (p : ℕ × Rights) → slice_get es i ≡ Some p → get_or (keys_of es) i 0 ≡ p.0
key-at es i p h =
    let there : slice_get (keys_of es) i ≡ Some p.0 = slice_get-map (λ (e : ℕ × Rights). e.0) es i ∙ ap (option_map (λ (e : ℕ × Rights). e.0)) h in
    let low = slice_get_within (keys_of es) i p.0 there in
    let here = slice_get-get_or (keys_of es) i 0 low in
    cc

module _ (sums : BTreeMap ℕ Rights) (ordered : IsOrdered nat_cmp sums) (entries : List Held) (are : entries ≡ map entry_of sums.entries) where
  at : (place : ℕ) → slice_get entries place ≡ option_map entry_of (slice_get sums.entries place)
  at place = ap (λ (l : List Held). slice_get l place) are ∙ slice_get-map entry_of sums.entries place

  pub rising-entries : AreRising entries
  rising-entries i j a b less h k = by (slice_get sums.entries i) refl (slice_get sums.entries j) refl
    where
      by : (o : Option (ℕ × Rights)) → slice_get sums.entries i ≡ o → (q : Option (ℕ × Rights)) → slice_get sums.entries j ≡ q → a.number < b.number
      by None e q f = absurd (let none = at i ∙ ap (option_map entry_of) e in cc)
      by (Some p) e None f = absurd (let none = at j ∙ ap (option_map entry_of) f in cc)
      by (Some p) e (Some q) f =
          let first : entry_of p ≡ a = (let there = at i ∙ ap (option_map entry_of) e in cc) in
          let second : entry_of q ≡ b = (let there = at j ∙ ap (option_map entry_of) f in cc) in
          let low : j < length (keys_of sums.entries) = slice_get_within (keys_of sums.entries) j q.0 (slice_get-map (λ (e : ℕ × Rights). e.0) sums.entries j ∙ ap (option_map (λ (e : ℕ × Rights). e.0)) f) in
          let below : get_or (keys_of sums.entries) i 0 < get_or (keys_of sums.entries) j 0 = below_from_sorted (keys_of sums.entries) i j 0 ordered less low in
          let own : p.0 ≡ a.number = ap (λ (h : Held). h.number) first in
          let others : q.0 ≡ b.number = ap (λ (h : Held). h.number) second in
          omega (arith, below, own, others, key-at sums.entries i p e, key-at sums.entries j q f)

-- ---- a search
module _ (entries : List Held) (rising : AreRising entries) (number : ℕ) where
  stands : (i : ℕ) → i < length entries → slice_get entries i ≡ Some (get_or entries i no_entry)
  stands i low = slice_get-get_or entries i no_entry low

  -- the comparisons with the number rise along the entries, as a search asks
  comparisons-rise : IsNonDecreasingBy (λ entry. ordering_index (nat_cmp entry.number number)) entries
  comparisons-rise = IsNonDecreasingBy-from_default (λ entry. ordering_index (nat_cmp entry.number number)) entries no_entry (λ i j le low.
      let rise : (get_or entries i no_entry).number ≤ (get_or entries j no_entry).number = by i j le low (cases_lt i j) in
      grind (arith, nat_tests))
    where
      by : (i j : ℕ) → i ≤ j → j < length entries → (i < j) ⊎ (j ≤ i) → (get_or entries i no_entry).number ≤ (get_or entries j no_entry).number
      by i j le low (inl less) = let below = rising i j (get_or entries i no_entry) (get_or entries j no_entry) less (stands i (omega arith)) (stands j low) in omega arith
      by i j le low (inr most) =
          let same : i ≡ j = omega arith in
          let numbers = ap (λ k. (get_or entries k no_entry).number) same in
          omega (arith, numbers)

  -- what was found says what the entries say of the number
  found-says : (place : ℕ) → place < length entries → (get_or entries place no_entry).number ≡ number → (right : Right) → IsTrue (member (get_or entries place no_entry).label right) ↔ IsSaid entries right number
  found-says place low is right = (λ m. record { place = place; entry = get_or entries place no_entry; stands = stands place low; of = is; held = m }, λ s. back s (cases_lt s.place place) (cases_lt place s.place))
    where
      back : (s : IsSaid entries right number) → (s.place < place) ⊎ (place ≤ s.place) → (place < s.place) ⊎ (s.place ≤ place) → IsTrue (member (get_or entries place no_entry).label right)
      back s (inl less) other = absurd (let below = rising s.place place s.entry (get_or entries place no_entry) less s.stands (stands place low) in let of = s.of in omega arith)
      back s (inr high) (inl less) = absurd (let below = rising place s.place (get_or entries place no_entry) s.entry less (stands place low) s.stands in let of = s.of in omega arith)
      back s (inr high) (inr most) =
          let one : s.place ≡ place = omega arith in
          let both : Some s.entry ≡ Some (get_or entries place no_entry) = sym s.stands ∙ ap (slice_get entries) one ∙ stands place low in
          let same : s.entry ≡ get_or entries place no_entry = cc in
          ap (λ (e : Held). member e.label right) (sym same) ∙ s.held

  pub searched-says : (place : ℕ) → IsSearchInRange (Ok place) (length entries) → IsBinarySearchResult (λ entry. nat_cmp entry.number number) entries (Ok place) → (right : Right) → IsTrue (member (get_or entries place no_entry).label right) ↔ IsSaid entries right number
  searched-says place low equal = found-says place low (ranked _ number _ (sym (equal no_entry)))

  pub searched-in-vain : (gap : ℕ) → IsSearchInRange (Err gap) (length entries) → IsBinarySearchResult (λ entry. nat_cmp entry.number number) entries (Err gap) → (right : Right) → IsTrue (member nothing right) ↔ IsSaid entries right number
  searched-in-vain gap low parted right = (λ m. absurd (nothing-has right m), λ s. absurd (none s (cases_lt s.place gap)))
    where
      none : (s : IsSaid entries right number) → (s.place < gap) ⊎ (gap ≤ s.place) → ⊥
      none s by_place = by by_place
        where
          within : s.place < length entries
          within = slice_get_within entries s.place s.entry s.stands

          is : get_or entries s.place no_entry ≡ s.entry
          is = let there = stands s.place within in let here = s.stands in cc

          of : (get_or entries s.place no_entry).number ≡ number
          of = ap (λ (e : Held). e.number) is ∙ s.of

          by : (s.place < gap) ⊎ (gap ≤ s.place) → ⊥
          by (inl less) = let below = ranked _ number _ (sym ((parted comparisons-rise).0 s.place no_entry (omega arith) less)) in omega (arith, below, of)
          by (inr high) = let above = ranked _ number _ (sym ((parted comparisons-rise).1 s.place no_entry high within)) in omega (arith, above, of)
