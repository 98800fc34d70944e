use Rattle.tg_graph_laws.proofs.RefusalOrder.{least_refusal, accepted_where_none, never_full}
use Rattle.tg_graph_laws.proofs.the_least_refusal_is_given.Goals as goal

pub returns : goal.returns
returns c = record { refused = least_refusal; accepted = accepted_where_none; full = never_full }
