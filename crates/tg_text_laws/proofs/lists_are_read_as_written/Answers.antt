use Rattle.tg_text_laws.proofs.RulesBack.{lists-back}
use Rattle.tg_text_laws.proofs.lists_are_read_as_written.Goals as goal

pub returns : goal.returns
returns c = lists-back
