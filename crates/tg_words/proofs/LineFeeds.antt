-- Sixteen bytes at once: the first line feed among them, as the lowest bit that is set.
use Rattle.std.proofs.Common.{◌≡◌, ◌∙◌, ap, ℕ, ◌+◌, ◌^◌, ◌<◌, ◌≤◌, ◌⊎◌, inl, inr, Bool, false, not, cond, List, map, length, get_or, eqb-true, arith}
use Rattle.std.specs.Int.{bit_at, trailing_zeros, w64}
use Rattle.std.specs.Int.Count.{trailing_of_zero}
use Rattle.std.specs.List.{prefix_len}
use Rattle.std.specs.Simd.Lanes.{chunk, mask_l}
use Rattle.std.proofs.lemmas.Bool.{cases_lt}
use Rattle.std.proofs.lemmas.List.{length-map, get_or_past}
use Rattle.std.proofs.lemmas.Nat.Bits.{bit_at-trailing_zeros}
use Rattle.std.proofs.lemmas.Simd.{bit_mask_l, length-chunk, mask_l-lt, none_from_empty_mask, run_in_chunk_fails, run_in_chunk_stops, trailing_mask_l}
use Rattle.tg_words.specs.Lines.{NoLineFeedBefore, IsLineEnd, is_line_feed}
use Rattle.tg_words.proofs.Cuts.{none_further}

-- where no bit is set, 64 zeros trail
pub some_set : (mask : ℕ) → trailing_zeros w64 mask < 64 → 0 < mask
some_set mask below = elim (cases_lt 0 mask) [
  | inl some ↦ some
  | inr none ↦
      let zero : mask ≡ 0 = omega arith in
      absurd (omega (arith, ap (trailing_zeros w64) zero, trailing_of_zero 64))
]

module _ (text : List ℕ) (i mask : ℕ) (room : i + 16 ≤ length text) (clear : NoLineFeedBefore text i) (is : mask ≡ mask_l (map is_line_feed (chunk i 16 text))) where
  -- where no bit is set, there is none
  pub none_in_block : mask ≡ 0 → NoLineFeedBefore text (i + 16)
  none_in_block none = none_further text i 16 clear (none_from_empty_mask is_line_feed text i 16 0 room (omega (arith, is)))

  module _ (some : 0 < mask) where
    abbrev place : ℕ
    place = trailing_zeros w64 mask

    abbrev bit_of : Bool → ℕ
    bit_of b = cond b 1 0

    long : length (map is_line_feed (chunk i 16 text)) ≡ 16
    long = length-map (chunk i 16 text) is_line_feed ∙ length-chunk i 16 text room

    counted : place ≡ prefix_len (λ x. not (is_line_feed x)) (chunk i 16 text)
    counted = ap (trailing_zeros w64) is ∙ trailing_mask_l is_line_feed 64 (chunk i 16 text) (omega (arith, length-chunk i 16 text room)) (omega (arith, is))

    is_set : bit_at mask place ≡ 1
    is_set = (bit_at-trailing_zeros w64 mask some (omega (arith, is, ap (λ n. 2 ^ n) long, mask_l-lt (map is_line_feed (chunk i 16 text))))).1

    pub short : place < 16
    short = by (cases_lt place 16)
      where
        by : (place < 16) ⊎ (16 ≤ place) → place < 16
        by (inl l) = l
        by (inr l) = absurd (omega (arith, is_set, ap (λ m. bit_at m place) is, bit_mask_l (map is_line_feed (chunk i 16 text)) place, ap bit_of (get_or_past (map is_line_feed (chunk i 16 text)) place false (omega (arith, long)))))

    pub first_in_block : IsLineEnd text (i + place)
    first_in_block = (
      omega (arith, short),
      none_further text i place clear (run_in_chunk_fails is_line_feed text i 16 place 0 room counted),
      λ _. eqb-true (get_or text (i + place) 0) 10 (run_in_chunk_stops is_line_feed text i 16 place 0 room counted short),
    )
