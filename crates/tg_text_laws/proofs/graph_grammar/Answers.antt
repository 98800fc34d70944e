use Rattle.tg_text.proofs.GraphLaws.{graph_texts_are_those, graph_faults_are_first}
use Rattle.tg_text_laws.proofs.graph_grammar.Goals as goal

pub returns-clause-texts : goal.returns-clause-texts
returns-clause-texts c = graph_texts_are_those

pub returns-clause-faults : goal.returns-clause-faults
returns-clause-faults c = graph_faults_are_first
