use Rattle.tg_graph.specs.GraphOf.{graph_of}
use Rattle.tg_text.proofs.SmallGraphs.{graph_is_small}
use Rattle.tg_inputs.proofs.inputs.graph_in.Goals as goal

pub returns-in-Ok-clause-small : goal.returns-in-Ok-clause-small
returns-in-Ok-clause-small c = graph_is_small c.args.text.now (graph_of c.in-Ok.graph) c.in-Ok.ensures
