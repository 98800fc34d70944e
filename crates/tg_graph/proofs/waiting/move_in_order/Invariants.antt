use Rattle.std.proofs.Common.{List}
use Rattle.std.specs.Map.{keys_of}
use Rattle.tg_names.specs.declared.right_sets.Rights.{Rights}
use Rattle.tg_graph.specs.Waiting.{IsMoving}
use Rattle.tg_graph.proofs.waiting.move_in_order.Given as goal

abbrev pub invariant-loop-position : goal.invariant-loop-position
invariant-loop-position l = (labels : List Rights) → IsMoving (keys_of l.graph) labels l.fn.row l.fn.left → IsMoving (keys_of l.graph) labels l.row l.left
