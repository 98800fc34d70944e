use Rattle.tg_text_laws.proofs.RuleTexts.{rule_lines_are_those, rules_texts_are_those, rule_faults_are_first}
use Rattle.tg_text_laws.proofs.rule_grammar.Goals as goal

pub returns-clause-lines : goal.returns-clause-lines
returns-clause-lines c = rule_lines_are_those

pub returns-clause-texts : goal.returns-clause-texts
returns-clause-texts c = rules_texts_are_those

pub returns-clause-faults : goal.returns-clause-faults
returns-clause-faults c = rule_faults_are_first
