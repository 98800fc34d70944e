use Rattle.tg_reports.proofs.ReportLaws.{rules_stop}
use Rattle.tg_reports.proofs.laws.rules_stop_at_refusal.Goals as goal

pub returns : goal.returns
returns c = rules_stop
