use Rattle.tg_graph.proofs.DraftLaws.{apart_fit}
use Rattle.tg_graph_laws.proofs.FittingDrafts.{apart_commute}
use Rattle.tg_graph_laws.proofs.drafts_apart_commute.Goals as goal

pub returns : goal.returns
returns c = record { fit = apart_fit; same = apart_commute }
