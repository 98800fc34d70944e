use Rattle.tg_text_laws.proofs.PolicyBack.{policies-back}
use Rattle.tg_text_laws.proofs.PolicyFits.{read-policies-fit}
use Rattle.tg_text_laws.proofs.policies_are_read_as_written.Goals as goal

pub returns-clause-written : goal.returns-clause-written
returns-clause-written c = policies-back

pub returns-clause-read : goal.returns-clause-read
returns-clause-read c = read-policies-fit
