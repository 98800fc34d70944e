use Rattle.tg_text_laws.proofs.KindTables.{script_has_these_kinds}
use Rattle.tg_text_laws.proofs.KindLaws.{script_line_kinds, script_text_kinds}
use Rattle.tg_text_laws.proofs.script_faults_have_the_least_kind.Goals as goal

pub returns-clause-lines : goal.returns-clause-lines
returns-clause-lines c = script_line_kinds

pub returns-clause-texts : goal.returns-clause-texts
returns-clause-texts c = script_text_kinds

pub returns-clause-kinds : goal.returns-clause-kinds
returns-clause-kinds c = script_has_these_kinds
