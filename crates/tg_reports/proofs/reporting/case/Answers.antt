use Rattle.std.proofs.Common.{Result, subst}
use Rattle.tg_inputs.specs.Readings.{ReportText}
use Rattle.tg_inputs.specs.Outcomes.{Brings, report_text}
use Rattle.tg_reports.proofs.SameLines.{report_by_lines}
use Rattle.tg_reports.proofs.reporting.case.Goals as goal

pub returns : goal.returns
returns c =
    let P : Result ReportText ReportText → Type 0 = λ made. Brings report_text c.apply.result made in
    subst P (report_by_lines _ _ _ _ c.parts_of.ensures.graph c.parts_of.ensures.rules) c.apply.ensures
