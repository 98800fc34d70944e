use Rattle.std.proofs.Common.{◌∙◌, sym, ap}
use Rattle.tg_graph.specs.Waiting.{graph_built}
use Rattle.tg_graph.proofs.BuiltGraphs.{built-nothing}
use Rattle.tg_graph.proofs.builder.GraphBuilder.finish.Goals as goal

pub returns : goal.returns
returns c =
    sym (built-nothing c.settle_all.new.graph)
    ∙ (λ i. graph_built (c.settle_all.new.graph, sym c.in_ok-settle_all.ensures.none i))
    ∙ c.in_ok-settle_all.ensures.same
    ∙ ap graph_built c.self.view_is
