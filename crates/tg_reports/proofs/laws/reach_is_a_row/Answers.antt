use Rattle.tg_reports.proofs.WhoLaws.{reach_is_a_row}
use Rattle.tg_reports.proofs.laws.reach_is_a_row.Goals as goal

pub returns : goal.returns
returns c = reach_is_a_row
