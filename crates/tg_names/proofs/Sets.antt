-- Sets of rights by their members.
use Rattle.std.proofs.Common.{◌≡◌, ℕ, ◌+◌, ◌-◌, ◌*◌, ◌<◌, ◌≤◌, ◌^◌, Bool, true, false, ◌&&◌, ◌||◌, not, ◌==◌, min, max, bit_and, bit_or, w8, refl, sym, ap, subst, ◌∙◌, arith, zero, suc, true≢false}
use Rattle.std.specs.Int.{bit_at, bit_not}
use Rattle.std.proofs.lemmas.Nat.Bits.{bit_at_and, bit_at_or, bit_at_not, bit_at-lt, same_from_bits_below, and_pow}
use Rattle.std.proofs.lemmas.Nat.{or_lt, and_le_l, and_le_r}
use Rattle.std.proofs.lemmas.Bool.{and_parts}
use Rattle.std.proofs.lemmas.Bool.Decides.{nat_tests, Decides-eqb}
use Rattle.tg_names.specs.declared.right_sets.Right.{Right}
use Rattle.tg_names.specs.declared.right_sets.Right.TheVariants.{T, G, R, W, E, A, D}
use Rattle.tg_names.specs.declared.right_sets.Rights.{Rights}
use Rattle.tg_names.specs.Sets.{member, bit_of, rights_where, weight, nothing, IsNamed}

or_bits : (x y : ℕ) → x < 2 → y < 2 → (max x y == 1) ≡ ((x == 1) || (y == 1))
or_bits zero zero p q = refl
or_bits zero (suc zero) p q = refl
or_bits (suc zero) zero p q = refl
or_bits (suc zero) (suc zero) p q = refl
or_bits zero (suc (suc y)) p q = absurd (omega arith)
or_bits (suc zero) (suc (suc y)) p q = absurd (omega arith)
or_bits (suc (suc x)) y p q = absurd (omega arith)

less_bits : (x y : ℕ) → x < 2 → y < 2 → (min x (1 - y) == 1) ≡ ((x == 1) && not (y == 1))
less_bits zero zero p q = refl
less_bits zero (suc zero) p q = refl
less_bits (suc zero) zero p q = refl
less_bits (suc zero) (suc zero) p q = refl
less_bits zero (suc (suc y)) p q = absurd (omega arith)
less_bits (suc zero) (suc (suc y)) p q = absurd (omega arith)
less_bits (suc (suc x)) y p q = absurd (omega arith)

pub member-union : (a b c : Rights) → c.0 ≡ bit_or a.0 b.0 → (right : Right) → member c right ≡ (member a right || member b right)
member-union a b c e right =
    ap (λ n. bit_at n (bit_of right) == 1) e ∙ ap (λ n. n == 1) (bit_at_or a.0 b.0 (bit_of right))
    ∙ or_bits _ _ (bit_at-lt a.0 (bit_of right)) (bit_at-lt b.0 (bit_of right))

bit_of-lt : (right : Right) → bit_of right < 7
bit_of-lt T = omega arith
bit_of-lt G = omega arith
bit_of-lt R = omega arith
bit_of-lt W = omega arith
bit_of-lt E = omega arith
bit_of-lt A = omega arith
bit_of-lt D = omega arith

pub member-difference : (a b c : Rights) → c.0 ≡ bit_and a.0 (bit_not w8 b.0) → b.0 < 2 ^ 8 → (right : Right) → member c right ≡ (member a right && not (member b right))
member-difference a b c e h right =
    ap (λ n. bit_at n (bit_of right) == 1) e
    ∙ ap (λ n. n == 1) (bit_at_and a.0 (bit_not w8 b.0) (bit_of right) ∙ ap (min (bit_at a.0 (bit_of right))) (bit_at_not w8 b.0 (bit_of right) h (omega (arith, bit_of-lt right))))
    ∙ less_bits _ _ (bit_at-lt a.0 (bit_of right)) (bit_at-lt b.0 (bit_of right))

same_bits : (x y : ℕ) → x < 2 → y < 2 → (x == 1) ≡ (y == 1) → x ≡ y
same_bits zero zero p q e = refl
same_bits zero (suc zero) p q e = absurd (true≢false (sym e))
same_bits (suc zero) zero p q e = absurd (true≢false e)
same_bits (suc zero) (suc zero) p q e = refl
same_bits zero (suc (suc y)) p q e = absurd (omega arith)
same_bits (suc zero) (suc (suc y)) p q e = absurd (omega arith)
same_bits (suc (suc x)) y p q e = absurd (omega arith)

module _ (a b : Rights) (same : (right : Right) → member a right ≡ member b right) where
  at_bit : (right : Right) → bit_at a.0 (bit_of right) ≡ bit_at b.0 (bit_of right)
  at_bit right = same_bits _ _ (bit_at-lt a.0 (bit_of right)) (bit_at-lt b.0 (bit_of right)) (same right)

  each_bit : (i : ℕ) → i < 7 → bit_at a.0 i ≡ bit_at b.0 i
  each_bit zero h = at_bit T
  each_bit (suc zero) h = at_bit G
  each_bit (suc (suc zero)) h = at_bit R
  each_bit (suc (suc (suc zero))) h = at_bit W
  each_bit (suc (suc (suc (suc zero)))) h = at_bit E
  each_bit (suc (suc (suc (suc (suc zero))))) h = at_bit A
  each_bit (suc (suc (suc (suc (suc (suc zero)))))) h = at_bit D
  each_bit (suc (suc (suc (suc (suc (suc (suc i))))))) h = absurd (omega arith)

  -- named sets with the same members are equal
  pub same_set : IsNamed a → IsNamed b → a ≡ b
  same_set p q = λ i. record { 0 = same_from_bits_below 7 a.0 b.0 p q each_bit i }

-- a test at both values
abbrev both : (Bool → Bool) → Bool
both f = f true && f false

at_both : (f : Bool → Bool) → both f ≡ true → (b : Bool) → f b ≡ true
at_both f e true = (and_parts (f true) (f false) e).0
at_both f e false = (and_parts (f true) (f false) e).1

abbrev bits_of : Bool → Bool → Bool → Bool → Bool → Bool → Bool → ℕ
bits_of t g r w e a d = weight t 1 + weight g 2 + weight r 4 + weight w 8 + weight e 16 + weight a 32 + weight d 64

abbrev beq : Bool → Bool → Bool
beq true y = y
beq false y = not y

beq_same : (x y : Bool) → beq x y ≡ true → x ≡ y
beq_same true y e = sym e
beq_same false true e = absurd (true≢false (sym e))
beq_same false false e = refl

abbrev picked : Bool → Bool → Bool → Bool → Bool → Bool → Bool → Right → Bool
picked t g r w e a d T = t
picked t g r w e a d G = g
picked t g r w e a d R = r
picked t g r w e a d W = w
picked t g r w e a d E = e
picked t g r w e a d A = a
picked t g r w e a d D = d

abbrev reads : Right → Bool → Bool → Bool → Bool → Bool → Bool → Bool → Bool
reads right t g r w e a d = beq (bit_at (bits_of t g r w e a d) (bit_of right) == 1) (picked t g r w e a d right)

everywhere : (right : Right) → both (λ t. both (λ g. both (λ r. both (λ w. both (λ e. both (λ a. both (λ d. reads right t g r w e a d))))))) ≡ true
everywhere T = refl
everywhere G = refl
everywhere R = refl
everywhere W = refl
everywhere E = refl
everywhere A = refl
everywhere D = refl

pub member-bits : (t g r w e a d : Bool) (right : Right) → (bit_at (bits_of t g r w e a d) (bit_of right) == 1) ≡ picked t g r w e a d right
member-bits t g r w e a d right =
    beq_same _ _
    (at_both (λ d. reads right t g r w e a d) (at_both (λ a. both (λ d. reads right t g r w e a d)) (at_both (λ e. both (λ a. both (λ d. reads right t g r w e a d))) (at_both (λ w. both (λ e. both (λ a. both (λ d. reads right t g r w e a d)))) (at_both (λ r. both (λ w. both (λ e. both (λ a. both (λ d. reads right t g r w e a d))))) (at_both (λ g. both (λ r. both (λ w. both (λ e. both (λ a. both (λ d. reads right t g r w e a d)))))) (at_both (λ t. both (λ g. both (λ r. both (λ w. both (λ e. both (λ a. both (λ d. reads right t g r w e a d))))))) (everywhere right) t) g) r) w) e) a) d)

pub member-where : (test : Right → Bool) (right : Right) → member (rights_where test) right ≡ test right
member-where test T = member-bits (test T) (test G) (test R) (test W) (test E) (test A) (test D) T
member-where test G = member-bits (test T) (test G) (test R) (test W) (test E) (test A) (test D) G
member-where test R = member-bits (test T) (test G) (test R) (test W) (test E) (test A) (test D) R
member-where test W = member-bits (test T) (test G) (test R) (test W) (test E) (test A) (test D) W
member-where test E = member-bits (test T) (test G) (test R) (test W) (test E) (test A) (test D) E
member-where test A = member-bits (test T) (test G) (test R) (test W) (test E) (test A) (test D) A
member-where test D = member-bits (test T) (test G) (test R) (test W) (test E) (test A) (test D) D

weight-le : (b : Bool) (n : ℕ) → weight b n ≤ n
weight-le true n = omega arith
weight-le false n = omega arith

pub named-where : (test : Right → Bool) → IsNamed (rights_where test)
named-where test = omega (arith, weight-le (test T) 1, weight-le (test G) 2, weight-le (test R) 4, weight-le (test W) 8, weight-le (test E) 16, weight-le (test A) 32, weight-le (test D) 64)

-- a named set is that of its members
pub where-member : (s : Rights) → IsNamed s → rights_where (λ right. member s right) ≡ s
where-member s n = same_set (rights_where (λ right. member s right)) s (member-where (λ right. member s right)) (named-where (λ right. member s right)) n

pub member-nothing : (right : Right) → member nothing right ≡ false
member-nothing T = refl
member-nothing G = refl
member-nothing R = refl
member-nothing W = refl
member-nothing E = refl
member-nothing A = refl
member-nothing D = refl

pub named-union : (a b c : Rights) → c.0 ≡ bit_or a.0 b.0 → IsNamed a → IsNamed b → IsNamed c
named-union a b c e p q = subst (λ n. n < 128) (sym e) (or_lt 7 a.0 b.0 p q)

pub named-difference : (a b c : Rights) → c.0 ≡ bit_and a.0 (bit_not w8 b.0) → IsNamed a → IsNamed c
named-difference a b c e p = omega (arith, and_le_l a.0 (bit_not w8 b.0))

bit_test : (x k : ℕ) → x < 2 → 0 < k → (x * k == k) ≡ (x == 1)
bit_test zero k h p = by k p
  where
    by : (k : ℕ) → 0 < k → (0 * k == k) ≡ false
    by zero p = absurd (omega arith)
    by (suc k) p = grind (arith, nat_tests)
bit_test (suc zero) k h p = grind (arith, nat_tests)
bit_test (suc (suc x)) k h p = absurd (omega arith)

-- a set of one right is in s exactly if the right is a member
pub contains-one : (s one : Rights) (right : Right) → one.0 ≡ 2 ^ bit_of right → (bit_and s.0 one.0 == one.0) ≡ member s right
contains-one s one right e =
    ap (λ n. bit_and s.0 n == n) e ∙ ap (λ n. n == 2 ^ bit_of right) (and_pow s.0 (bit_of right)) ∙ bit_test (bit_at s.0 (bit_of right)) (2 ^ bit_of right) (bit_at-lt s.0 (bit_of right)) (positive right)
  where
    positive : (right : Right) → 0 < 2 ^ bit_of right
    positive T = omega arith
    positive G = omega arith
    positive R = omega arith
    positive W = omega arith
    positive E = omega arith
    positive A = omega arith
    positive D = omega arith

and_bits : (x y : ℕ) → x < 2 → y < 2 → (min x y == 1) ≡ ((x == 1) && (y == 1))
and_bits zero zero p q = refl
and_bits zero (suc zero) p q = refl
and_bits (suc zero) zero p q = refl
and_bits (suc zero) (suc zero) p q = refl
and_bits zero (suc (suc y)) p q = absurd (omega arith)
and_bits (suc zero) (suc (suc y)) p q = absurd (omega arith)
and_bits (suc (suc x)) y p q = absurd (omega arith)

abbrev common : Rights → Rights → Rights
common a b = record { 0 = bit_and a.0 b.0 }

member-common : (a b : Rights) (right : Right) → member (common a b) right ≡ (member a right && member b right)
member-common a b right =
    ap (λ n. n == 1) (bit_at_and a.0 b.0 (bit_of right)) ∙ and_bits _ _ (bit_at-lt a.0 (bit_of right)) (bit_at-lt b.0 (bit_of right))

pub contains-members : (a b : Rights) (r : Bool) → r ≡ (bit_and a.0 b.0 == b.0) → r ≡ true → (right : Right) → member b right ≡ true → member a right ≡ true
contains-members a b r e t right m =
    (and_parts (member a right) (member b right) (sym (member-common a b right) ∙ ap (λ n. member (record { 0 = n }) right) ((Decides-eqb (bit_and a.0 b.0) b.0).0 (sym e ∙ t)) ∙ m)).0

pub members-contains : (a b : Rights) (r : Bool) → IsNamed b → r ≡ (bit_and a.0 b.0 == b.0) → ((right : Right) → member b right ≡ true → member a right ≡ true) → r ≡ true
members-contains a b r n e h =
    e ∙ (Decides-eqb (bit_and a.0 b.0) b.0).1 (ap (λ (s : Rights). s.0) (same_set (common a b) b (λ right. member-common a b right ∙ by (member a right) (member b right) (h right)) (omega (arith, and_le_r a.0 b.0)) n))
  where
    by : (x y : Bool) → (y ≡ true → x ≡ true) → (x && y) ≡ y
    by true y h = refl
    by false true h = h refl
    by false false h = refl
