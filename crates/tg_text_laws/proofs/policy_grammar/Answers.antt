use Rattle.tg_text.proofs.PolicyLaws.{policy_texts_are_those, policy_faults_are_first}
use Rattle.tg_text_laws.proofs.policy_grammar.Goals as goal

pub returns-clause-texts : goal.returns-clause-texts
returns-clause-texts c = policy_texts_are_those

pub returns-clause-faults : goal.returns-clause-faults
returns-clause-faults c = policy_faults_are_first
