use Rattle.tg_graph_laws.proofs.RowsOf.{same_rows}
use Rattle.tg_graph_laws.proofs.same_graphs_have_the_same_rows.Goals as goal

pub returns : goal.returns
returns c = same_rows
