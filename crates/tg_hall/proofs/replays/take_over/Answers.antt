use Rattle.std.proofs.Common.{ap, ◌∙◌}
use Rattle.tg_graph.specs.GraphOf.{graph_of}
use Rattle.tg_hall.proofs.TrailLemmas.{vertices-taken, graph-taken}
use Rattle.tg_hall.proofs.replays.take_over.Goals as goal

pub take_over-requires : goal.take_over-requires
take_over-requires c = vertices-taken c.args.graph.now c.args.source.now c.args.positions.now c.requires

pub returns-clause-graph : goal.returns-clause-graph
returns-clause-graph c =
    ap graph_of c.in_ok-take_over.ensures.taken
    ∙ graph-taken c.args.graph.now c.args.source.now c.args.positions.now c.requires c.len.ensures.graph
