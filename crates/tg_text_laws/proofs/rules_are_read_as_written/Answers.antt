use Rattle.tg_text_laws.proofs.RuleBack.{rule-back}
use Rattle.tg_text_laws.proofs.rules_are_read_as_written.Goals as goal

pub returns : goal.returns
returns c = rule-back
