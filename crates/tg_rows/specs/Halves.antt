-- Searches by halves.
use Rattle.std.specs.Prelude.{◌≡◌, ℕ, ◌-◌, ◌<◌, false, slice_index_or, List}
use Rattle.std.specs.Ordering.{nat_cmp, is_gt}
use Rattle.std.specs.Cmp.Lexicographic.{slice_cmp}
use Rattle.tg_names.specs.declared.right_sets.Rights.{Rights}
use Rattle.tg_rows.specs.Rows.{Edges}

-- the target in front of the place, if there is one, is not above v
abbrev pub LastIsNotAbove : Edges → List ℕ → ℕ → Type 0
LastIsNotAbove row v place = (d : List ℕ × Rights) → 0 < place → is_gt (slice_cmp nat_cmp (slice_index_or row (place - 1) d).0 v) ≡ false
