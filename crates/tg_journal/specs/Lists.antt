-- Lists of which one begins another.
use Rattle.std.specs.Prelude.{◌≡◌, ◌⊎◌, List, length, take}

-- the second list begins with the first
abbrev pub Begins : {X : Type 0} → List X → List X → Type 0
Begins xs ys = take (length xs) ys ≡ xs

-- one of the two lists begins with the other
abbrev pub Agree : {X : Type 0} → List X → List X → Type 0
Agree xs ys = Begins xs ys ⊎ Begins ys xs
