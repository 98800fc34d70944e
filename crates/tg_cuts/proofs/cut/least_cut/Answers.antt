use Rattle.std.proofs.Common.{◌≤◌, ◌<◌, length, sym, subst, arith}
use Rattle.std.specs.Map.{keys_of}
use Rattle.std.proofs.lemmas.Map.Entries.{length-keys_of}
use Rattle.std.proofs.lemmas.Result.{err_from_is_err_and}
use Rattle.tg_graph.specs.Limits.{most_vertices}
use Rattle.tg_graph.specs.GraphOf.{graph_of}
use Rattle.tg_islands.specs.Questions.{IsDueFault}
use Rattle.tg_cuts.specs.Cuts.{cut_fault}
use Rattle.tg_cuts.proofs.KeptEnds.{cut-unknown-x, cut-unknown-y, cut-unknown-end, cut-too-large, cut-no-fault}
use Rattle.tg_cuts.proofs.cut.least_cut.Goals as goal

pub returns-in_err-x_position-clause-fault : goal.returns-in_err-x_position-clause-fault
returns-in_err-x_position-clause-fault c =
    let g = graph_of c.args.graph.now in
    let handed_on = err_from_is_err_and c.from_residual.result c.from_residual.ensures.1 in
    rw (handed_on.1, handed_on.2) (subst (IsDueFault (cut_fault g c.args.x c.args.y c.args.kept.now)) (sym c.in_err-x_position.ensures.unknown) (cut-unknown-x g c.args.x c.args.y c.args.kept.now c.in_err-x_position.ensures.none))

pub returns-in_err-y_position-clause-fault : goal.returns-in_err-y_position-clause-fault
returns-in_err-y_position-clause-fault c =
    let g = graph_of c.args.graph.now in
    let handed_on = err_from_is_err_and c.from_residual-in_err-y_position.result c.from_residual-in_err-y_position.ensures.1 in
    rw (handed_on.1, handed_on.2) (subst (IsDueFault (cut_fault g c.args.x c.args.y c.args.kept.now)) (sym c.in_err-y_position.ensures.unknown) (cut-unknown-y g c.args.x c.args.y c.args.kept.now c.in_ok-x_position.ensures.known c.in_err-y_position.ensures.none))

pub returns-in_err-check_edges-clause-fault : goal.returns-in_err-check_edges-clause-fault
returns-in_err-check_edges-clause-fault c =
    let g = graph_of c.args.graph.now in
    let unknown = c.in_err-check_edges.ensures.fault in
    let handed_on = err_from_is_err_and c.from_residual-in_err-check_edges.result c.from_residual-in_err-check_edges.ensures.1 in
    rw (handed_on.1, handed_on.2) (subst (IsDueFault (cut_fault g c.args.x c.args.y c.args.kept.now)) (sym unknown.is) (cut-unknown-end g c.args.x c.args.y c.args.kept.now c.in_ok-x_position.ensures.known c.in_ok-y_position.ensures.known _ unknown))

pub returns-then-len-gt-MOST_VERTICES-clause-fault : goal.returns-then-len-gt-MOST_VERTICES-clause-fault
returns-then-len-gt-MOST_VERTICES-clause-fault c =
    let es = c.args.graph.now in
    let more : most_vertices < length (keys_of es) = omega (arith, c.len.ensures.value, length-keys_of es) in
    cut-too-large (graph_of es) c.args.x c.args.y c.args.kept.now c.in_ok-x_position.ensures.known c.in_ok-y_position.ensures.known c.in_ok-check_edges.ensures.known more

pub returns-in_err-cut-clause-fault : goal.returns-in_err-cut-clause-fault
returns-in_err-cut-clause-fault c =
    let es = c.args.graph.now in
    let few : length (keys_of es) ≤ most_vertices = omega (arith, c.len.ensures.value, length-keys_of es) in
    let handed_on = err_from_is_err_and c.from_residual-in_err-cut.result c.from_residual-in_err-cut.ensures.1 in
    rw (handed_on.1, handed_on.2) (cut-no-fault (graph_of es) c.args.x c.args.y c.args.kept.now c.in_ok-x_position.ensures.known c.in_ok-y_position.ensures.known c.in_ok-check_edges.ensures.known few)

pub returns-clause-due : goal.returns-clause-due
returns-clause-due c =
    let es = c.args.graph.now in
    let few : length (keys_of es) ≤ most_vertices = omega (arith, c.len.ensures.value, length-keys_of es) in
    cut-no-fault (graph_of es) c.args.x c.args.y c.args.kept.now c.in_ok-x_position.ensures.known c.in_ok-y_position.ensures.known c.in_ok-check_edges.ensures.known few
