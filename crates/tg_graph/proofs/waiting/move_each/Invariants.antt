use Rattle.std.proofs.Common.{List}
use Rattle.std.specs.Map.{keys_of}
use Rattle.tg_names.specs.declared.right_sets.Rights.{Rights}
use Rattle.tg_graph.specs.Waiting.{IsMoving}
use Rattle.tg_graph.proofs.waiting.move_each.Given as goal

abbrev pub invariant-loop-number : goal.invariant-loop-number
invariant-loop-number l = (labels : List Rights) → IsMoving (keys_of l.graph) labels l.fn.row l.fn.left → IsMoving (keys_of l.graph) labels l.row l.left
