use Rattle.std.proofs.Common.{◌≡◌, List, Option, Vec, Global, Result, Ok, Err, subst}
use Rattle.std.specs.Prelude.{IfOk, MatchOption}
use Rattle.tg_graph.specs.declared.rules.Rule.{Rule}
use Rattle.tg_cuts.specs.Cuts.{IsTheCut, HasNoCut}
use Rattle.tg_inputs.specs.declared.outcome.Report.{Report}
use Rattle.tg_inputs.specs.Readings.{CutQuestion}
use Rattle.tg_reports.specs.Reports.{IsCut}
use Rattle.tg_inputs.specs.Outcomes.{report_text, cut_question_of}
use Rattle.tg_reports.specs.ReportParts.{cut_text}
use Rattle.tg_reports.proofs.CutReports.{cut_told}
use Rattle.tg_reports.proofs.cut_lines.report_of.Goals as goal

-- the report of a cut that was found, if there was memory for it
found_told : {E : Type 0} (q : CutQuestion) (rules cut : List Rule) (made : Result Report E) → rules ≡ cut → IsTheCut q.graph q.right q.x q.y q.kept cut → IfOk made (λ report. report_text report ≡ cut_text rules) → IfOk made (λ report. IsCut q (report_text report))
found_told q rules cut (Ok report) same is told = cut_told q cut (report_text report) is (subst (λ (given : List Rule). report_text report ≡ cut_text given) same told)
found_told q rules cut (Err fault) same is told = told

pub returns-in-Some : goal.returns-in-Some
returns-in-Some c =
    let q = cut_question_of c.args.question.now in
    let is = subst (λ (cut : Option (Vec Rule Global)). MatchOption cut (HasNoCut q.graph q.right q.x q.y q.kept) (λ rules. IsTheCut q.graph q.right q.x q.y q.kept rules.items)) c.in-Some.is c.in_ok-rules.ensures in
    found_told q c.deref.result.now c.in-Some.rules.items c.found.result c.deref.ensures.value is c.found.ensures
