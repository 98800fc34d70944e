use Rattle.tg_text_laws.proofs.PolicyKindLaws.{policy_line_kinds, policy_text_kinds, policy_has_these_kinds}
use Rattle.tg_text_laws.proofs.policy_faults_have_the_least_kind.Goals as goal

pub returns-clause-lines : goal.returns-clause-lines
returns-clause-lines c = policy_line_kinds

pub returns-clause-texts : goal.returns-clause-texts
returns-clause-texts c = policy_text_kinds

pub returns-clause-kinds : goal.returns-clause-kinds
returns-clause-kinds c = policy_has_these_kinds
