use Rattle.tg_text_laws.proofs.KindTables.{graph_has_these_kinds}
use Rattle.tg_text_laws.proofs.KindLaws.{graph_line_kinds, graph_text_kinds}
use Rattle.tg_text_laws.proofs.graph_faults_have_the_least_kind.Goals as goal

pub returns-clause-lines : goal.returns-clause-lines
returns-clause-lines c = graph_line_kinds

pub returns-clause-texts : goal.returns-clause-texts
returns-clause-texts c = graph_text_kinds

pub returns-clause-kinds : goal.returns-clause-kinds
returns-clause-kinds c = graph_has_these_kinds
