use Rattle.std.proofs.lemmas.Result.{err_from_is_err_and}
use Rattle.tg_graph.specs.GraphOf.{graph_of}
use Rattle.tg_cuts.proofs.KeptEnds.{ends-source, ends-target, ends-known}
use Rattle.tg_cuts.proofs.kept.check_edge.Goals as goal

pub returns-in_err-position_of-clause-fault : goal.returns-in_err-position_of-clause-fault
returns-in_err-position_of-clause-fault c =
    let handed_on = err_from_is_err_and c.from_residual.result c.from_residual.ensures.1 in
    rw (handed_on.1, handed_on.2) (λ more. record { end = c.args.edge.now.source; is = c.in_err-position_of.ensures.unknown; first = λ later. ends-source (graph_of c.args.graph.now) c.args.edge.now later more c.in_err-position_of.ensures.none })

pub returns-in_err-position_of-2-clause-fault : goal.returns-in_err-position_of-2-clause-fault
returns-in_err-position_of-2-clause-fault c =
    let handed_on = err_from_is_err_and c.from_residual-in_err-position_of-2.result c.from_residual-in_err-position_of-2.ensures.1 in
    rw (handed_on.1, handed_on.2) (λ more. record { end = c.args.edge.now.target; is = c.in_err-position_of-2.ensures.unknown; first = λ later. ends-target (graph_of c.args.graph.now) c.args.edge.now later more c.in_ok-position_of.ensures.known c.in_err-position_of-2.ensures.none })

pub returns-clause-known : goal.returns-clause-known
returns-clause-known c = λ later more. ends-known (graph_of c.args.graph.now) c.args.edge.now later more c.in_ok-position_of.ensures.known c.in_ok-position_of-2.ensures.known
