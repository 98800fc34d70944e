-- Which of two rights with places comes sooner, and the first of many.
use Rattle.std.proofs.Common.{◌≡◌, ℕ, zero, suc, ◌<◌, ◌≤◌, ◌+◌, Bool, true, false, ◌&&◌, Option, Some, None, nat_eq, nat_lt, get_or, refl, sym, ap, subst, ◌∙◌, arith, true≢false, inl, inr, ◌⊎◌}
use Rattle.std.specs.Prelude.{if◌then◌else◌}
use Rattle.std.proofs.lemmas.Bool.{cases_lt, eq-eqb, eqb-true, lt-ltb, ltb-true, and_parts, or_cases, or_left, or_right}
use Rattle.tg_names.specs.declared.right_sets.Right.{Right}
use Rattle.tg_names.specs.declared.right_sets.Right.TheVariants.{T, G, R, W, E, A, D}
use Rattle.tg_names.specs.declared.right_sets.Rights.{Rights}
use Rattle.tg_names.specs.Letters.{all_rights}
use Rattle.tg_names.specs.Sets.{bit_of}
use Rattle.tg_analysis.specs.declared.cases.Claimed.{Claimed}
use Rattle.tg_analysis.specs.declared.cases.Spot.{Spot}
use Rattle.tg_analysis.specs.Cases.{IsInBoth, IsFirstInBoth, IsSooner, IsEarlier, is_sooner, IsSoonest, sooner_of, earlier_of}

-- the right of a bit
of_bit : ℕ → Right
of_bit zero = T
of_bit (suc zero) = G
of_bit (suc (suc zero)) = R
of_bit (suc (suc (suc zero))) = W
of_bit (suc (suc (suc (suc zero)))) = E
of_bit (suc (suc (suc (suc (suc zero))))) = A
of_bit (suc (suc (suc (suc (suc (suc n)))))) = D

of_own_bit : (r : Right) → of_bit (bit_of r) ≡ r
unfolding of_bit
of_own_bit T = refl
of_own_bit G = refl
of_own_bit R = refl
of_own_bit W = refl
of_own_bit E = refl
of_own_bit A = refl
of_own_bit D = refl

pub same_right : (r s : Right) → bit_of r ≡ bit_of s → r ≡ s
same_right r s e = sym (of_own_bit r) ∙ ap of_bit e ∙ of_own_bit s

pub bit_below : (r : Right) → bit_of r < 7
bit_below T = omega arith
bit_below G = omega arith
bit_below R = omega arith
bit_below W = omega arith
bit_below E = omega arith
bit_below A = omega arith
bit_below D = omega arith

-- the rights stand in the order of their bits
pub right-at : (k : ℕ) (d : Right) → k < 7 → bit_of (get_or all_rights k d) ≡ k
right-at zero d h = refl
right-at (suc zero) d h = refl
right-at (suc (suc zero)) d h = refl
right-at (suc (suc (suc zero))) d h = refl
right-at (suc (suc (suc (suc zero)))) d h = refl
right-at (suc (suc (suc (suc (suc zero))))) d h = refl
right-at (suc (suc (suc (suc (suc (suc zero)))))) d h = refl
right-at (suc (suc (suc (suc (suc (suc (suc k))))))) d h = absurd (omega arith)

-- ---- a right in both of two sets
module _ (one other : Rights) where
  -- none in front of this one is in both
  abbrev pub NoneInBoth : ℕ → Type 0
  NoneInBoth count = (right : Right) → bit_of right < count → IsInBoth one other right → ⊥

  pub both-next : (count : ℕ) (right : Right) → NoneInBoth count → bit_of right ≡ count → (IsInBoth one other right → ⊥) → NoneInBoth (count + 1)
  both-next count right before is not found low h = by (cases_lt (bit_of found) count)
    where
      by : (bit_of found < count) ⊎ (count ≤ bit_of found) → ⊥
      by (inl l) = before found l h
      by (inr l) = not (subst (IsInBoth one other) (same_right found right (omega arith)) h)

  pub both-found : (count : ℕ) (right : Right) → NoneInBoth count → bit_of right ≡ count → IsInBoth one other right → IsFirstInBoth one other (Some right)
  both-found count right before is h = (h, λ found both less. before found (omega arith) both)

  pub both-none : NoneInBoth 7 → IsFirstInBoth one other None
  both-none none = λ right h. none right (bit_below right) h

-- ---- the order
sooner-trans : (r s t : Right) (i j k : ℕ) → IsSooner r i s j → IsSooner s j t k → IsSooner r i t k
sooner-trans r s t i j k (inl a) (inl b) = inl (omega arith)
sooner-trans r s t i j k (inl a) (inr b) = inl (subst (λ x. bit_of r < bit_of x) b.0 a)
sooner-trans r s t i j k (inr a) (inl b) = inl (subst (λ x. bit_of x < bit_of t) (sym a.0) b)
sooner-trans r s t i j k (inr a) (inr b) = inr (a.0 ∙ b.0, (let first = a.1 in let second = b.1 in omega arith))

-- one of two comes sooner, or they are the same
abbrev Compared : Right → ℕ → Right → ℕ → Type 0
Compared r i s j = IsSooner r i s j ⊎ (IsSooner s j r i ⊎ ((r ≡ s) × (i ≡ j)))

compared : (r s : Right) (i j : ℕ) → Compared r i s j
compared r s i j = by (cases_lt (bit_of r) (bit_of s)) (cases_lt (bit_of s) (bit_of r))
  where
    places : r ≡ s → (i < j) ⊎ (j ≤ i) → (j < i) ⊎ (i ≤ j) → Compared r i s j
    places same (inl l) k = inl (inr (same, l))
    places same (inr l) (inl k) = inr (inl (inr (sym same, k)))
    places same (inr l) (inr k) = inr (inr (same, omega arith))

    by : (bit_of r < bit_of s) ⊎ (bit_of s ≤ bit_of r) → (bit_of s < bit_of r) ⊎ (bit_of r ≤ bit_of s) → Compared r i s j
    by (inl l) k = inl (inl l)
    by (inr l) (inl k) = inr (inl (inl k))
    by (inr l) (inr k) = places (same_right r s (omega arith)) (cases_lt i j) (cases_lt j i)

-- what comes sooner than one that does not come after another comes sooner than that
sooner-not_after : (r s t : Right) (i j k : ℕ) → IsSooner r i s j → (IsSooner t k s j → ⊥) → IsSooner r i t k
sooner-not_after r s t i j k a not = by (compared r t i k)
  where
    by : Compared r i t k → IsSooner r i t k
    by (inl h) = h
    by (inr (inl h)) = absurd (not (sooner-trans t r s k i j h a))
    by (inr (inr h)) = absurd (not (subst (λ n. IsSooner t n s j) h.1 (subst (λ x. IsSooner x i s j) h.0 a)))

-- ---- the test
pub test-sooner : (r s : Right) (i k : ℕ) → is_sooner r i s k ≡ true → IsSooner r i s k
test-sooner r s i k h = by (or_cases (nat_lt (bit_of r) (bit_of s)) (nat_eq (bit_of r) (bit_of s) && nat_lt i k) h)
  where
    by : (nat_lt (bit_of r) (bit_of s) ≡ true) ⊎ ((nat_eq (bit_of r) (bit_of s) && nat_lt i k) ≡ true) → IsSooner r i s k
    by (inl l) = inl (ltb-true (bit_of r) (bit_of s) l)
    by (inr b) =
        let p = and_parts (nat_eq (bit_of r) (bit_of s)) (nat_lt i k) b in
        inr (same_right r s (eqb-true (bit_of r) (bit_of s) p.0), ltb-true i k p.1)

sooner-test : (r s : Right) (i k : ℕ) → IsSooner r i s k → is_sooner r i s k ≡ true
sooner-test r s i k (inl l) = or_left (nat_lt (bit_of r) (bit_of s)) _ (lt-ltb (bit_of r) (bit_of s) l)
sooner-test r s i k (inr b) = or_right (nat_lt (bit_of r) (bit_of s)) _ (λ n. eq-eqb (bit_of r) (bit_of s) (ap bit_of b.0) n && lt-ltb i k b.1 n)

pub test-not : (r s : Right) (i k : ℕ) → is_sooner r i s k ≡ false → IsSooner r i s k → ⊥
test-not r s i k late h = true≢false (sym (sooner-test r s i k h) ∙ late)

-- ---- the soonest of two
module _ (First Next : Right → ℕ → Type 0) where
  abbrev Either : Right → ℕ → Type 0
  Either right place = First right place ⊎ Next right place

  both_some : (best next : Claimed) → IsSoonest First (Some best) → IsSoonest Next (Some next) → (b : Bool) → is_sooner next.right next.place best.right best.place ≡ b → IsSoonest Either (if b then Some next else Some best)
  both_some best next f n true t = (inr n.0, λ right place c sooner. by right place c sooner)
    where
      by : (right : Right) (place : ℕ) → Either right place → IsSooner right place next.right next.place → ⊥
      by right place (inl c) s = f.1 right place c (sooner-trans right next.right best.right place next.place best.place s (test-sooner next.right best.right next.place best.place t))
      by right place (inr c) s = n.1 right place c s
  both_some best next f n false t = (inl f.0, λ right place c sooner. by right place c sooner)
    where
      by : (right : Right) (place : ℕ) → Either right place → IsSooner right place best.right best.place → ⊥
      by right place (inl c) s = f.1 right place c s
      by right place (inr c) s = n.1 right place c (sooner-not_after right best.right next.right place best.place next.place s (test-not next.right best.right next.place best.place t))

  pub soonest-two : (best next : Option Claimed) → IsSoonest First best → IsSoonest Next next → IsSoonest Either (sooner_of best next)
  soonest-two None None f n = λ right place c. elim c [ inl a ↦ f right place a | inr b ↦ n right place b ]
  soonest-two None (Some next) f n = (inr n.0, λ right place c s. elim c [ inl a ↦ f right place a | inr b ↦ n.1 right place b s ])
  soonest-two (Some best) None f n = (inl f.0, λ right place c s. elim c [ inl a ↦ f.1 right place a s | inr b ↦ n right place b ])
  soonest-two (Some best) (Some next) f n = both_some best next f n (is_sooner next.right next.place best.right best.place) refl

-- the claims that hold of the same are as soon
pub soonest-same : (First Next : Right → ℕ → Type 0) → ((right : Right) (place : ℕ) → First right place → Next right place) → ((right : Right) (place : ℕ) → Next right place → First right place) → (best : Option Claimed) → IsSoonest First best → IsSoonest Next best
soonest-same First Next to from None f = λ right place c. f right place (from right place c)
soonest-same First Next to from (Some best) f = (to best.right best.place f.0, λ right place c s. f.1 right place (from right place c) s)

-- ---- the earliest of many
module _ (Claim : Right → ℕ → ℕ → Type 0) where
  -- of the claims over the first so many y, the first is at the spot
  abbrev pub IsFirstSpot : ℕ → Option Spot → Type 0
  IsFirstSpot count None = (right : Right) (i j : ℕ) → j < count → Claim right i j → ⊥
  IsFirstSpot count (Some spot) = (spot.y < count) × Claim spot.right spot.x spot.y × ((right : Right) (i j : ℕ) → j < count → Claim right i j → IsEarlier right i j spot.right spot.x spot.y → ⊥)

  before : (count j : ℕ) → j < count + 1 → (j < count) ⊎ (j ≡ count)
  before count j h = elim (cases_lt j count) [ inl l ↦ inl l | inr l ↦ inr (omega arith) ]

  at_last : (count : ℕ) (right : Right) (i j : ℕ) → j ≡ count → Claim right i j → Claim right i count
  at_last count right i j is c = subst (λ n. Claim right i n) is c

  pub no-spot : IsFirstSpot 0 None
  no-spot = λ right i j low c. omega arith

  module _ (count : ℕ) where
    abbrev Here : Right → ℕ → Type 0
    Here right i = Claim right i count

    newer : (next : Claimed) → IsSoonest Here (Some next) → ((right : Right) (i j : ℕ) → j < count → Claim right i j → IsEarlier right i j next.right next.place count → ⊥) → IsFirstSpot (count + 1) (Some (record { right = next.right; x = next.place; y = count }))
    newer next n none = (omega arith, n.0, λ right i j low c e. by right i j c e (before count j low))
      where
        here : (right : Right) (i j : ℕ) → j ≡ count → Claim right i j → IsEarlier right i j next.right next.place count → ⊥
        here right i j is c (inl s) = n.1 right i (at_last count right i j is c) s
        here right i j is c (inr e) = let low = e.2 in omega arith

        by : (right : Right) (i j : ℕ) → Claim right i j → IsEarlier right i j next.right next.place count → (j < count) ⊎ (j ≡ count) → ⊥
        by right i j c e (inl l) = none right i j l c e
        by right i j c e (inr is) = here right i j is c e

    older : (spot : Spot) → IsFirstSpot count (Some spot) → ((right : Right) (i : ℕ) → Claim right i count → IsSooner right i spot.right spot.x → ⊥) → IsFirstSpot (count + 1) (Some spot)
    older spot f none = ((let low = f.0 in omega arith), f.1, λ right i j low c e. by right i j c e (before count j low))
      where
        here : (right : Right) (i j : ℕ) → j ≡ count → Claim right i j → IsEarlier right i j spot.right spot.x spot.y → ⊥
        here right i j is c (inl s) = none right i (at_last count right i j is c) s
        here right i j is c (inr e) = let low = f.0 in let late = e.2 in omega arith

        by : (right : Right) (i j : ℕ) → Claim right i j → IsEarlier right i j spot.right spot.x spot.y → (j < count) ⊎ (j ≡ count) → ⊥
        by right i j c e (inl l) = f.2 right i j l c e
        by right i j c e (inr is) = here right i j is c e

    both_spots : (spot : Spot) (next : Claimed) → IsFirstSpot count (Some spot) → IsSoonest Here (Some next) → (b : Bool) → is_sooner next.right next.place spot.right spot.x ≡ b → IsFirstSpot (count + 1) (if b then Some (record { right = next.right; x = next.place; y = count }) else Some spot)
    both_spots spot next f n true t = newer next n (λ right i j low c e. f.2 right i j low c (inl (by right i j e)))
      where
        ahead : IsSooner next.right next.place spot.right spot.x
        ahead = test-sooner next.right spot.right next.place spot.x t

        by : (right : Right) (i j : ℕ) → IsEarlier right i j next.right next.place count → IsSooner right i spot.right spot.x
        by right i j (inl s) = sooner-trans right next.right spot.right i next.place spot.x s ahead
        by right i j (inr e) = subst (λ x. IsSooner x i spot.right spot.x) (sym e.0) (subst (λ m. IsSooner next.right m spot.right spot.x) (sym e.1) ahead)
    both_spots spot next f n false t = older spot f (λ right i c s. n.1 right i c (sooner-not_after right spot.right next.right i spot.x next.place s (test-not next.right spot.right next.place spot.x t)))

    pub first-more : (spot : Option Spot) (next : Option Claimed) → IsFirstSpot count spot → IsSoonest (λ right i. Claim right i count) next → IsFirstSpot (count + 1) (earlier_of spot next count)
    first-more None None f n = λ right i j low c. elim (before count j low) [ inl l ↦ f right i j l c | inr is ↦ n right i (at_last count right i j is c) ]
    first-more (Some spot) None f n = older spot f (λ right i c s. n right i c)
    first-more None (Some next) f n = newer next n (λ right i j low c e. f right i j low c)
    first-more (Some spot) (Some next) f n = both_spots spot next f n (is_sooner next.right next.place spot.right spot.x) refl
