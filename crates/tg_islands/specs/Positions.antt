-- Positions in lists.
use Rattle.std.specs.Prelude.{◌≡◌, ℕ, true, List, nat_eq}
use Rattle.std.specs.List.{list_any}
use Rattle.tg_islands.specs.declared.positions.Listed.{Listed}
use Rattle.tg_islands.specs.declared.positions.Listed.TheVariants.{Few, Many}

-- the positions, wherever they lie
abbrev pub listed_positions : Listed → List ℕ
listed_positions (Few few) = few
listed_positions (Many many) = many.items

-- the position is one of the list
abbrev pub IsOneOf : ℕ → List ℕ → Type 0
IsOneOf a positions = list_any (nat_eq a) positions ≡ true
