-- Keys that are numbers, and what an option has.
use Rattle.std.proofs.Common.{◌≡◌, ℕ, ◌<◌, true, false, Option, Some, None, is_some, refl, sym, arith, true≢false}
use Rattle.std.specs.Cmp.{ranks}
use Rattle.std.specs.Ordering.{nat_cmp, is_eq, MatchOrdering}
use Rattle.std.specs.declared.cmp.Ordering.{Ordering}
use Rattle.std.specs.declared.cmp.Ordering.TheVariants.{Less, Equal, Greater}

-- a number that is not the key
pub apart : (a q : ℕ) → (a ≡ q → ⊥) → is_eq (nat_cmp a q) ≡ false
apart a q other = by (nat_cmp a q) (ranks a q)
  where
    by : (r : Ordering) → MatchOrdering r (a < q) (a ≡ q) (q < a) → is_eq r ≡ false
    by Less h = refl
    by Equal h = absurd (other h)
    by Greater h = refl

-- the key itself
pub own_key : (a : ℕ) → is_eq (nat_cmp a a) ≡ true
own_key a = by (nat_cmp a a) (ranks a a)
  where
    by : (r : Ordering) → MatchOrdering r (a < a) (a ≡ a) (a < a) → is_eq r ≡ true
    by Less h = absurd (omega arith)
    by Equal h = refl
    by Greater h = absurd (omega arith)

-- what compares as the key is the key
pub same_key : (a q : ℕ) → is_eq (nat_cmp a q) ≡ true → a ≡ q
same_key a q = by (nat_cmp a q) (ranks a q)
  where
    by : (r : Ordering) → MatchOrdering r (a < q) (a ≡ q) (q < a) → is_eq r ≡ true → a ≡ q
    by Less h e = absurd (true≢false (sym e))
    by Equal h e = h
    by Greater h e = absurd (true≢false (sym e))

-- what an option that is there has
pub some_of : (o : Option ℕ) → is_some o ≡ true → (x : ℕ) × (o ≡ Some x)
some_of None h = absurd (true≢false (sym h))
some_of (Some x) h = (x, refl)

pub none_of : (o : Option ℕ) → is_some o ≡ false → o ≡ None
none_of None h = refl
none_of (Some x) h = absurd (true≢false h)
