use Rattle.std.proofs.Common.{◌∙◌, sym, ap, ◌≡◌}
use Rattle.tg_graph.specs.Graphs.{has_vertex}
use Rattle.tg_graph.specs.GraphOf.{graph_of}
use Rattle.tg_graph.specs.Rules.{with_vertex}
use Rattle.tg_graph.specs.Waiting.{graph_built}
use Rattle.tg_graph.proofs.BuiltGraphs.{built-nothing}
use Rattle.tg_graph.proofs.builder.GraphBuilder.add_vertex.Goals as goal

pub returns-clause-added : goal.returns-clause-added
returns-clause-added c =
    let n = c.args.n in
    let now = c.add_vertex.new.self in
    let was : graph_of c.settle_all.new.graph ≡ graph_built c.args.self.now =
    sym (built-nothing c.settle_all.new.graph) ∙ (λ i. graph_built (c.settle_all.new.graph, sym c.in_ok-settle_all.ensures.none i)) ∙ c.in_ok-settle_all.ensures.same ∙ ap graph_built c.self.view_is in (
      ap (λ g. has_vertex g n) (sym was) ∙ c.in_ok-add_vertex.ensures.added.0,
      (λ i. graph_built (now, c.in_ok-settle_all.ensures.none i)) ∙ built-nothing now ∙ c.in_ok-add_vertex.ensures.added.1 ∙ ap (λ g. with_vertex g n) was,
    )
