use Rattle.std.proofs.Common.{◌≤◌, length, refl, arith}
use Rattle.std.proofs.lemmas.Option.{slice_get_read}
use Rattle.std.proofs.lemmas.Result.{err_from_is_err_and}
use Rattle.tg_graph.specs.GraphOf.{graph_of}
use Rattle.tg_cuts.proofs.KeptEnds.{known-none, known-more, known-fault, known-all}
use Rattle.tg_cuts.proofs.kept.check_edges.Goals as goal

pub loop-edge-init : goal.loop-edge-init
loop-edge-init c = known-none (graph_of c.args.graph.now) c.args.edges.now

pub loop-edge-preserved : goal.loop-edge-preserved
loop-edge-preserved c =
    let edges = c.args.edges.now in
    let at = slice_get_read edges (length edges) c.loop-edge.edge-index c.edge-item.result refl c.loop-edge-test.true c.edge-item.is in
    known-more (graph_of c.args.graph.now) edges c.loop-edge.edge-index c.edge-item.result at c.loop-edge.invariant c.in_ok-check_edge.ensures.known

pub returns-in_err-check_edge-clause-fault : goal.returns-in_err-check_edge-clause-fault
returns-in_err-check_edge-clause-fault c =
    let edges = c.args.edges.now in
    let at = slice_get_read edges (length edges) c.loop-edge.edge-index c.edge-item.result refl c.loop-edge-test.true c.edge-item.is in
    let handed_on = err_from_is_err_and c.from_residual.result c.from_residual.ensures.1 in
    rw (handed_on.1, handed_on.2) (known-fault (graph_of c.args.graph.now) edges c.loop-edge.edge-index c.edge-item.result _ at c.loop-edge.invariant c.in_err-check_edge.ensures.fault)

pub returns-clause-known : goal.returns-clause-known
returns-clause-known c =
    let all : length c.args.edges.now ≤ c.loop-edge.edge-index = omega arith in
    known-all (graph_of c.args.graph.now) c.args.edges.now c.loop-edge.edge-index all c.loop-edge.invariant
