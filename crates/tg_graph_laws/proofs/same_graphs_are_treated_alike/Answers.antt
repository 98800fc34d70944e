use Rattle.tg_graph_laws.proofs.RunLaws.{same_refusal, same_after}
use Rattle.tg_graph_laws.proofs.same_graphs_are_treated_alike.Goals as goal

pub returns : goal.returns
returns c = record { refusal = same_refusal; after = same_after }
