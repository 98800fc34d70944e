-- What contracts see of a pass, and what is true of each pass.
use Rattle.std.specs.Prelude.{◌≡◌, ◌≢◌, ◌↔◌, ◌≤◌, ℕ, ◌+◌, cond, eqb, Contains, List, [], ◌∷◌, length, take, map, slice_get, refl, ◌==◌, count_by, nat_lt}
use Rattle.std.specs.List.Sorted.{IsStrictlyIncreasing}
use Rattle.std.specs.declared.option.Option.{Option}
use Rattle.std.specs.declared.option.Option.TheVariants.{None, Some}
use Rattle.std.specs.Coded.{Coded, code_by, coded×, coded_ℕ, coded_list, coded_option}
use Rattle.tg_journal.specs.Limits.{most_cells}
use Rattle.tg_journal.specs.Known.{values, AllKnown}

-- number: the pass's own; cells: the names of its journal's cells, in order; known: the record that it knows of each cell;
-- seen: the records that it has seen, from the front of the journal on; mine: the places of those that it has put
pub record PassState (R : Type 0) : Type 0 where
  pub number : ℕ
  pub cells : List ℕ
  pub known : List (Option R)
  pub seen : List R
  pub mine : List ℕ

abbrev pub pass_code : {R : Type 0} → Coded R → Coded (PassState R)
pass_code c = code_by (ℕ × (List ℕ × (List (Option _) × (List _ × List ℕ)))) (coded× coded_ℕ (coded× (coded_list coded_ℕ) (coded× (coded_list (coded_option c)) (coded× (coded_list c) (coded_list coded_ℕ))))) (λ p. (p.number, (p.cells, (p.known, (p.seen, p.mine))))) (λ t. record { number = t.0; cells = t.1.0; known = t.1.1.0; seen = t.1.1.1.0; mine = t.1.1.1.1 }) (λ _. refl)

-- a pass that has seen the first count cells
abbrev pub pass_of : {R : Type 0} → ℕ → ℕ → List ℕ → List (Option R) → List ℕ → PassState R
pass_of number count cells known mine = record { number = number; cells = cells; known = known; seen = values (take count known); mine = mine }

-- a pass of the journal whose cells have these names, before its first call
abbrev pub fresh : {R : Type 0} → List ℕ → ℕ → PassState R
fresh cells number = record { number = number; cells = cells; known = map (λ _. None) cells; seen = []; mine = [] }

-- the pass knows that this record stands at the place
abbrev pub KnowsAt : {R : Type 0} → PassState R → ℕ → R → Type 0
KnowsAt p place r = slice_get p.known place ≡ Some (Some r)

-- what the pass knew it still knows
abbrev pub Remembers : {R : Type 0} → PassState R → PassState R → Type 0
Remembers {R} old new = (place : ℕ) (r : R) → KnowsAt old place r → KnowsAt new place r

-- of every cell but the first that the pass had not seen, it knows what it knew
abbrev pub KnowsOthersAsBefore : {R : Type 0} → PassState R → PassState R → Type 0
KnowsOthersAsBefore old new = (place : ℕ) → place ≢ length old.seen → slice_get new.known place ≡ slice_get old.known place

-- of the cells from this place on, the pass knows what it knew
abbrev pub KnowsFromAsBefore : {R : Type 0} → ℕ → PassState R → PassState R → Type 0
KnowsFromAsBefore from old new = (place : ℕ) → from ≤ place → slice_get new.known place ≡ slice_get old.known place

module _ {R : Type 0} (seat : R → ℕ) where
  -- the pass has seen a record of its own number at the place
  abbrev pub HasOwnAt : PassState R → ℕ → Type 0
  HasOwnAt p place = (r : R) × (slice_get p.seen place ≡ Some r) × (seat r ≡ p.number)

  -- What is true of each pass. It knows what it has seen, at places 0, 1, .. without a gap; mine are rising places, and just those at which it has seen a record of its own number: among the first n records that it has seen, as many are of its own number as there are places below n in mine
  pub record IsPass (p : PassState R) : Type 0 where
    pub sizes : length p.known ≡ length p.cells
    pub limit : length p.cells ≤ most_cells
    pub within : length p.seen ≤ length p.cells
    pub known : (place : ℕ) (r : R) → slice_get p.seen place ≡ Some r → KnowsAt p place r
    pub fewer : length p.mine ≤ length p.seen
    pub rising : IsStrictlyIncreasing p.mine
    pub own : (place : ℕ) → Contains p.mine place ↔ HasOwnAt p place
    pub counted : (n : ℕ) → count_by (λ r. seat r == p.number) (take n p.seen) ≡ count_by (λ place. nat_lt place n) p.mine

  -- the places, from i on, at which a record of this number stands: what a pass keeps as mine
  abbrev pub own_places : ℕ → ℕ → List R → List ℕ
  own_places number i [] = []
  own_places number i (x ∷ xs) = cond (eqb (seat x) number) (i ∷ own_places number (i + 1) xs) (own_places number (i + 1) xs)

  -- What a pass keeps beside its number: how many of its notes have been seen, what its notes know, and the places of its own. There is room for the place of each cell
  abbrev pub IsKept : (number count notes room : ℕ) → List (Option R) → List ℕ → Type 0
  IsKept number count notes room known mine =
      ((count ≤ notes) × AllKnown (take count known)) × ((mine ≡ own_places number 0 (values (take count known))) × (notes ≤ room) × (notes ≤ most_cells))
