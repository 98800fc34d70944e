use Rattle.tg_graph_laws.proofs.FittingDrafts.{fitting_is_by_names}
use Rattle.tg_graph_laws.proofs.drafts_fit_by_names.Goals as goal

pub returns : goal.returns
returns c = fitting_is_by_names
