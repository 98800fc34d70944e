-- What entries say that islands hold over one target.
use Rattle.std.specs.Prelude.{◌≡◌, ℕ, ◌↔◌, IsTrue, List, slice_get, Some, ◌⊎◌}
use Rattle.tg_names.specs.declared.right_sets.Right.{Right}
use Rattle.tg_names.specs.Sets.{member}
use Rattle.tg_index.specs.declared.by_target.HeldEdge.{HeldEdge}
use Rattle.tg_index.specs.declared.by_target.Held.{Held}

-- some entry says that the island with the number holds the right
pub record IsSaid (entries : List Held) (right : Right) (number : ℕ) : Type 0 where
  pub place : ℕ
  pub entry : Held
  pub stands : slice_get entries place ≡ Some entry
  pub of : entry.number ≡ number
  pub held : IsTrue (member entry.label right)

-- the edge leads to the target, has the right, and is out of the island with the number
pub record IsEntryOf (numbers : List ℕ) (to : ℕ) (edge : HeldEdge) (right : Right) (number : ℕ) : Type 0 where
  pub target : edge.target ≡ to
  pub held : IsTrue (member edge.label right)
  pub of : slice_get numbers edge.source ≡ Some number

-- the entries say as well what the edge does
abbrev pub GainsEntry : List ℕ → ℕ → HeldEdge → List Held → List Held → Type 0
GainsEntry numbers target edge old new = (right : Right) (number : ℕ) → IsSaid new right number ↔ (IsSaid old right number ⊎ IsEntryOf numbers target edge right number)
