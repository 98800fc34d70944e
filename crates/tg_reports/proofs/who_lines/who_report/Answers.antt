use Rattle.std.proofs.Common.{◌≡◌, ℕ, List, ap, ◌∙◌}
use Rattle.std.specs.Map.{keys_of}
use Rattle.tg_graph.specs.GraphOf.{graph_of}
use Rattle.tg_text.specs.Canonical.{in_name_order}
use Rattle.tg_inputs.specs.Readings.{ReportText}
use Rattle.tg_reports.specs.Reports.{who_text}
use Rattle.tg_reports.specs.ReportParts.{is_marked_name, marked_text}
use Rattle.tg_reports.proofs.WhoTests.{tells_who}
use Rattle.tg_reports.proofs.who_lines.who_report.Goals as goal

pub returns : goal.returns
returns c =
    let question = c.args.question.now in
    let vs = keys_of question.graph in
    let marks = c.in_ok-marks.marks.items in
    let names = c.deref-2.ensures.value ∙ c.in_ok-names.ensures.names in
    let text : c.in_ok-lines_of.field-0.items ≡ who_text (is_marked_name vs marks) (in_name_order vs) = c.in_ok-lines_of.ensures ∙ (ap (λ (ms : _). marked_text vs ms c.deref-2.result.now) c.deref.ensures.value ∙ ap (marked_text vs marks) names) in
    let F : List ℕ → ReportText = λ bytes. record { bytes = bytes; status = 0 } in
    (is_marked_name vs marks, tells_who (graph_of question.graph) question.rights question.y marks c.in_ok-names.ensures.graph.apart c.in_ok-marks.ensures, ap F text)
