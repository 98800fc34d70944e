-- Reports that are made as asked are the reports of what was read.
use Rattle.std.proofs.Common.{◌≡◌, Result, Ok, Err, sym, subst}
use Rattle.tg_inputs.specs.declared.outcome.Report.{Report}
use Rattle.tg_inputs.specs.declared.outcome.Halt.{Halt}
use Rattle.tg_inputs.specs.declared.outcome.Halt.TheVariants.{Refused}
use Rattle.tg_inputs.specs.Readings.{ReportText, IsFor}
use Rattle.tg_inputs.specs.Outcomes.{Makes, report_text}

pub made-report : {A : Type 0} (P : A → ReportText → Type 0) (reading : Result A ReportText) (made : Result Report Halt) (report : Report) → Makes P made reading → made ≡ Ok report → IsFor P reading (report_text report)
made-report {A} P reading made report is same = by reading (subst (λ (m : Result Report Halt). Makes P m reading) same is)
  where
    by : (read : Result A ReportText) → Makes P (Ok report) read → IsFor P read (report_text report)
    by (Ok x) h = h
    by (Err fault) h = absurd h

pub made-refusal : {A : Type 0} (P : A → ReportText → Type 0) (reading : Result A ReportText) (made : Result Report Halt) (report : Report) → Makes P made reading → made ≡ Err (Refused report) → IsFor P reading (report_text report)
made-refusal {A} P reading made report is same = by reading (subst (λ (m : Result Report Halt). Makes P m reading) same is)
  where
    by : (read : Result A ReportText) → Makes P (Err (Refused report)) read → IsFor P read (report_text report)
    by (Ok x) h = absurd h
    by (Err fault) h = sym h
