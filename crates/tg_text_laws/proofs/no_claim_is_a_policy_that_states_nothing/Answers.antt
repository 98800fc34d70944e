use Rattle.tg_text_laws.proofs.PolicyKindLaws.{no_claim_is_states_nothing}
use Rattle.tg_text_laws.proofs.no_claim_is_a_policy_that_states_nothing.Goals as goal

pub returns : goal.returns
returns c = no_claim_is_states_nothing
