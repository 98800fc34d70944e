use Rattle.tg_text.proofs.ScriptLaws.{script_texts_are_those, script_faults_are_first}
use Rattle.tg_text_laws.proofs.script_grammar.Goals as goal

pub returns-clause-texts : goal.returns-clause-texts
returns-clause-texts c = script_texts_are_those

pub returns-clause-faults : goal.returns-clause-faults
returns-clause-faults c = script_faults_are_first
