use Rattle.std.proofs.Common.{◌≡◌, ◌<◌, ℕ, List, get_or}
use Rattle.std.specs.Map.{keys_of}
use Rattle.tg_names.specs.declared.right_sets.Rights.{Rights}
use Rattle.tg_names.specs.Sets.{nothing}
use Rattle.tg_graph.specs.Waiting.{IsMoving}
use Rattle.tg_graph.proofs.waiting.move_all.Given as goal

-- the labels in front of the place are gone
abbrev pub invariant-loop-place : goal.invariant-loop-place
invariant-loop-place l = record {
  moved : (labels : List Rights) → IsMoving (keys_of l.graph) labels l.fn.row l.fn.left → IsMoving (keys_of l.graph) labels l.row l.left;
  gone : (k : ℕ) → k < l.place → get_or l.left k nothing ≡ nothing;
}
