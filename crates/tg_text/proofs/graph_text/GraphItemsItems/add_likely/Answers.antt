use Rattle.std.proofs.Common.{sym, subst}
use Rattle.tg_graph.specs.Waiting.{graph_built}
use Rattle.tg_words.specs.Reading.{MakesFirst}
use Rattle.tg_text.specs.GraphText.{graph_item}
use Rattle.tg_text.proofs.PlainEdges.{plain_edge_first}
use Rattle.tg_text.proofs.graph_text.GraphItemsItems.add_likely.Goals as goal

pub returns-then-add_plain_edge-clause-made : goal.returns-then-add_plain_edge-clause-made
returns-then-add_plain_edge-clause-made c =
    let g = graph_built c.args.self.now.graph in
    let h = graph_built c.add_plain_edge.new.graph in
    let first = plain_edge_first c.in_ok-version.version g h c.in-Some.line.0 c.in-Some.line.1 c.in-Some.line.2.now c.in-Some.ensures.names.0 c.in-Some.ensures.names.1 c.in-Some.ensures.few c.if-add_plain_edge.ensures c.args.text.now c.in-Some.line.3.now c.in-Some.ensures.line in
    subst (λ o. MakesFirst graph_item (o, g) c.args.text.now (o, h) c.in-Some.line.3.now) (sym c.in_ok-version.was) first
