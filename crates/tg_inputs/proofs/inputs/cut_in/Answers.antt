use Rattle.tg_graph.specs.GraphOf.{graph_of}
use Rattle.tg_inputs.proofs.KeptEdges.{no_fault, vertex_there}
use Rattle.tg_inputs.proofs.inputs.cut_in.Goals as goal

pub returns-clause-cuttable : goal.returns-clause-cuttable
returns-clause-cuttable c =
    let g = graph_of c.in_ok-graph.graph in
    let x_there = vertex_there g c.in_ok-x.x c.in_ok-x-2.x c.in_ok-x-2.ensures.made in
    let y_there = vertex_there g c.in_ok-y.y c.in_ok-y-2.y c.in_ok-y-2.ensures.made in
    no_fault g c.in_ok-x-2.x c.in_ok-y-2.y c.in_ok-kept.kept.items x_there y_there c.in_ok-kept.ensures.known c.in_ok-graph.ensures.small
