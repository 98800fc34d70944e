use Rattle.tg_graph_laws.proofs.RowsOf.{rows_of_graph}
use Rattle.tg_graph_laws.proofs.rows_are_of_the_graph.Goals as goal

pub returns : goal.returns
returns c = rows_of_graph
