use Rattle.officer.proofs.RunLaws.{runs_print_reports}
use Rattle.officer.proofs.laws.runs_print_reports.Goals as goal

pub returns : goal.returns
returns c = runs_print_reports
