use Rattle.tg_reports.proofs.OneReport.{one_report}
use Rattle.tg_reports.proofs.laws.there_is_one_report.Goals as goal

pub returns : goal.returns
returns c = one_report
