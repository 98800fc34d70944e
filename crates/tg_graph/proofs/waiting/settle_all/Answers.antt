use Rattle.std.proofs.Common.{◌∙◌, [], sym, arith}
use Rattle.tg_graph.specs.Waiting.{graph_built}
use Rattle.tg_graph.proofs.BuiltGraphs.{built-same, none-left}
use Rattle.tg_graph.proofs.waiting.settle_all.Goals as goal

pub returns-clause-same : goal.returns-clause-same
returns-clause-same c =
    let held = c.loop-source.invariant in
    let waits = c.loop-source.waits.items in
    (λ i. graph_built (c.loop-source.graph, c.new.ensures.items i))
    ∙ built-same c.loop-source.graph waits [] (λ k. sym (none-left waits c.len-source-end.result held.as_many (λ k l. held.settled k (omega (arith, l, c.loop-source-test.false))) k))
    ∙ held.same
