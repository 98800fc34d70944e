use Rattle.tg_text_laws.proofs.GraphBack.{graph-back}
use Rattle.tg_text_laws.proofs.graphs_are_read_as_written.Goals as goal

pub returns : goal.returns
returns c = graph-back
