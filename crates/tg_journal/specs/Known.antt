-- Lists of what is known of one cell after another: `None` of a cell of which nothing is known yet.
use Rattle.std.specs.Prelude.{◌≡◌, List, [], ◌∷◌, map}
use Rattle.std.specs.declared.option.Option.{Option}
use Rattle.std.specs.declared.option.Option.TheVariants.{None, Some}

-- the values that are known, in order
abbrev pub values : {X : Type 0} → List (Option X) → List X
values [] = []
values (None ∷ ks) = values ks
values (Some x ∷ ks) = x ∷ values ks

-- every value is known
abbrev pub AllKnown : {X : Type 0} → List (Option X) → Type 0
AllKnown ks = map Some (values ks) ≡ ks
