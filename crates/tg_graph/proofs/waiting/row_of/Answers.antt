use Rattle.std.proofs.Common.{sym, subst}
use Rattle.std.specs.Map.{keys_of}
use Rattle.tg_graph.specs.Waiting.{IsMoving}
use Rattle.tg_graph.proofs.WaitingLabels.{moving-start}
use Rattle.tg_graph.proofs.waiting.row_of.Goals as goal

pub returns-clause-moved : goal.returns-clause-moved
returns-clause-moved c =
    let names = keys_of c.args.graph.now in
    let labels = c.args.labels.now in
    c.in_ok-move_all.ensures labels (c.in_ok-move_in_order.ensures labels
    (subst (λ row. IsMoving names labels row c.in_ok-left.left) (sym c.in_ok-row.ensures) (subst (IsMoving names labels _) (sym c.in_ok-left.ensures.cases) (moving-start names labels))))
