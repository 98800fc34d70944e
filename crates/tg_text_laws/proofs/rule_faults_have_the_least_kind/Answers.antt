use Rattle.tg_text_laws.proofs.KindTables.{one_rule_has_these_kinds, rules_have_these_kinds}
use Rattle.tg_text_laws.proofs.KindLaws.{one_rule_kinds, rule_line_kinds, rules_text_kinds}
use Rattle.tg_text_laws.proofs.rule_faults_have_the_least_kind.Goals as goal

pub returns-clause-one : goal.returns-clause-one
returns-clause-one c = one_rule_kinds

pub returns-clause-lines : goal.returns-clause-lines
returns-clause-lines c = rule_line_kinds

pub returns-clause-texts : goal.returns-clause-texts
returns-clause-texts c = rules_text_kinds

pub returns-clause-one_kinds : goal.returns-clause-one_kinds
returns-clause-one_kinds c = one_rule_has_these_kinds

pub returns-clause-kinds : goal.returns-clause-kinds
returns-clause-kinds c = rules_have_these_kinds
