use Rattle.std.proofs.Common.{◌≡◌, ℕ, ◌<◌, Some, slice_get}
use Rattle.tg_analysis_tests.proofs.case_tests.are_places.Given as goal

abbrev pub invariant-loop-place : goal.invariant-loop-place
invariant-loop-place l = (i place : ℕ) → i < l.place-index → slice_get l.places i ≡ Some place → place < l.count
