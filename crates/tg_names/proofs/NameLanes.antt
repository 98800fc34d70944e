-- Sixteen bytes at once: those at the front that may stand behind another, counted by the mask of all, and
-- the front that is kept.
use Rattle.std.proofs.Common.{◌≡◌, ℕ, ◌+◌, ◌-◌, ◌%◌, ◌^◌, ◌<◌, ◌≤◌, ◌⊎◌, inl, inr, Bool, true, false, List, [], ◌∷◌, ◌++◌, map, length, replicate, take, get_or, nat_lt, zero, suc, cond, refl, sym, ap, subst, ◌∙◌, arith}
use Rattle.std.proofs.lemmas.Bool.{agree_below, agree_below_at, cases_lt, lt-ltb, le-ltb}
use Rattle.std.proofs.lemmas.List.{length-map, length-take-le, get_or-map, get_or_past}
use Rattle.std.proofs.lemmas.Simd.{map-map, mask_l-mod, mask_l-lt, bit_mask_l}
use Rattle.std.proofs.lemmas.Nat.Bits.{bit_at-trailing_ones}
use Rattle.std.specs.Int.{bit_at, trailing_ones, w64}
use Rattle.std.specs.Simd.Lanes.{mask_l, sel_l, top}
use Rattle.std.specs.List.{range_with_len}
use Rattle.tg_names.specs.Names.{fits_at, padded_to_16, AllFit}

-- a bit that is set, or not, is a lane that passes, or not
abbrev bit_of : Bool → ℕ
bit_of b = cond b 1 0

set_of : (b : Bool) → bit_of b ≡ 1 → b ≡ true
set_of true e = refl
set_of false e = absurd (omega arith)

unset_of : (b : Bool) → bit_of b ≡ 0 → b ≡ false
unset_of true e = absurd (omega arith)
unset_of false e = refl

module _ (bytes : List ℕ) (long : length bytes ≡ 16) (fits : (i : ℕ) → get_or bytes i 0 < 256)
    (f : ℕ → ℕ) (z : List ℕ) (lanes : z ≡ map f bytes) (r : ℕ) (found : r ≡ trailing_ones w64 (mask_l (map (top 7) z) % 2 ^ 64))
    (same : agree_below (λ x. top 7 (f x)) (fits_at 1) 256 ≡ true) where
  abbrev passes : ℕ → Bool
  passes x = top 7 (f x)

  abbrev mask : ℕ
  mask = mask_l (map passes bytes)

  lanes_long : length (map passes bytes) ≡ 16
  lanes_long = length-map bytes passes ∙ long

  mask_is : mask_l (map (top 7) z) % 2 ^ 64 ≡ mask
  mask_is = ap (λ l. mask_l l % 2 ^ 64) (ap (map (top 7)) lanes ∙ map-map (top 7) f bytes) ∙ mask_l-mod (map passes bytes) 64 (omega (arith, lanes_long))

  small : mask < 2 ^ 16
  small = subst (λ n. mask < 2 ^ n) lanes_long (mask_l-lt (map passes bytes))

  ones : (trailing_ones w64 mask < 64) × (bit_at mask (trailing_ones w64 mask) ≡ 0) × ((i : ℕ) → i < trailing_ones w64 mask → bit_at mask i ≡ 1)
  ones = bit_at-trailing_ones w64 mask (omega (arith, small))

  count_is : r ≡ trailing_ones w64 mask
  count_is = found ∙ ap (trailing_ones w64) mask_is

  lane_is : (i : ℕ) → i < 16 → get_or (map passes bytes) i false ≡ fits_at 1 (get_or bytes i 0)
  lane_is i inside = get_or-map passes bytes i 0 false (omega (arith, long)) ∙ agree_below_at passes (fits_at 1) 256 (get_or bytes i 0) same (fits i)

  no_more_than_16 : r ≤ 16
  no_more_than_16 = by (cases_lt 16 r)
    where
      by : (16 < r) ⊎ (r ≤ 16) → r ≤ 16
      by (inl l) = absurd (omega (arith, ones.2 16 (omega (arith, count_is, l)), bit_mask_l (map passes bytes) 16, ap bit_of (get_or_past (map passes bytes) 16 false (omega (arith, lanes_long)))))
      by (inr l) = l

  all_fit : AllFit bytes r
  all_fit i inside = sym (lane_is i (omega (arith, no_more_than_16))) ∙ set_of (get_or (map passes bytes) i false) (sym (bit_mask_l (map passes bytes) i) ∙ ones.2 i (omega (arith, count_is)))

  stops_there : r < 16 → fits_at 1 (get_or bytes r 0) ≡ false
  stops_there inside = sym (lane_is r inside) ∙ unset_of (get_or (map passes bytes) r false) (sym (bit_mask_l (map passes bytes) r) ∙ ap (bit_at mask) count_is ∙ ones.1)

  pub counted : (r ≤ 16) × AllFit bytes r × (r < 16 → fits_at 1 (get_or bytes r 0) ≡ false)
  counted = (no_more_than_16, all_fit, stops_there)

-- ---- the lanes in front of a place are kept, and the others become zeros
abbrev keeps : ℕ → ℕ → Bool
keeps m k = top 7 (cond (nat_lt k m) 255 0)

is_kept : (m k : ℕ) → k < m → keeps m k ≡ true
is_kept m k l = ap (λ b. top 7 (cond b 255 0)) (lt-ltb k m l)

not_kept : (m k : ℕ) → m ≤ k → keeps m k ≡ false
not_kept m k l = ap (λ b. top 7 (cond b 255 0)) (le-ltb k m l)

none_kept : (m a : ℕ) (bytes : List ℕ) → m ≤ a → sel_l (map (keeps m) (range_with_len a (length bytes))) bytes (replicate (length bytes) 0) ≡ replicate (length bytes) 0
none_kept m a [] l = refl
none_kept m a (b ∷ bytes) l = (λ i. cond (not_kept m a l i) b 0 ∷ none_kept m (a + 1) bytes (omega arith) i)

front_kept : (m a len : ℕ) (bytes : List ℕ) → m ≡ a + len → len ≤ length bytes → sel_l (map (keeps m) (range_with_len a (length bytes))) bytes (replicate (length bytes) 0) ≡ take len bytes ++ replicate (length bytes - len) 0
front_kept m a zero bytes e l = none_kept m a bytes (omega arith) ∙ ap (λ n. replicate n 0) (omega arith)
front_kept m a (suc len) [] e l = absurd (omega arith)
front_kept m a (suc len) (b ∷ bytes) e l =
    (λ i. cond (is_kept m a (omega arith) i) b 0 ∷ front_kept m (a + 1) len bytes (omega arith) (omega arith) i)
    ∙ ap (λ n. b ∷ take len bytes ++ replicate n 0) (omega arith)

pub front_padded : (bytes : List ℕ) (len : ℕ) → length bytes ≡ 16 → len ≤ 16 → sel_l (map (keeps len) (range_with_len 0 16)) bytes (replicate 16 0) ≡ padded_to_16 (take len bytes)
front_padded bytes len long within =
    let size : length (take len bytes) ≡ len = length-take-le len bytes (omega (arith, long)) in
    ap (λ n. sel_l (map (keeps len) (range_with_len 0 n)) bytes (replicate n 0)) (sym long)
    ∙ front_kept len 0 len bytes (omega arith) (omega (arith, long))
    ∙ ap (λ n. take len bytes ++ replicate n 0) (omega (arith, long, size))
