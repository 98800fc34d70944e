use Rattle.tg_reports.proofs.WhoLaws.{who_is_a_column}
use Rattle.tg_reports.proofs.laws.who_is_a_column.Goals as goal

pub returns : goal.returns
returns c = who_is_a_column
