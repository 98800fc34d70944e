use Rattle.std.proofs.Common.{◌≡◌, ℕ, List, ap, ◌∙◌}
use Rattle.std.specs.Map.{keys_of}
use Rattle.tg_graph.specs.GraphOf.{graph_of}
use Rattle.tg_text.specs.Canonical.{in_name_order}
use Rattle.tg_inputs.specs.Readings.{ReportText}
use Rattle.tg_reports.specs.Reports.{reach_text}
use Rattle.tg_reports.specs.ReportParts.{set_of_name, reached_text}
use Rattle.tg_reports.proofs.WhoTests.{tells_reach}
use Rattle.tg_reports.proofs.reach_lines.reach_report.Goals as goal

pub returns : goal.returns
returns c =
    let question = c.args.question.now in
    let vs = keys_of question.graph in
    let sets = c.in_ok-sets.sets.items in
    let names = c.deref-2.ensures.value ∙ c.in_ok-names.ensures.names in
    let text : c.in_ok-lines_of.field-0.items ≡ reach_text (set_of_name vs sets) (in_name_order vs) = c.in_ok-lines_of.ensures ∙ (ap (λ (ss : _). reached_text vs ss c.deref-2.result.now) c.deref.ensures.value ∙ ap (reached_text vs sets) names) in
    let F : List ℕ → ReportText = λ bytes. record { bytes = bytes; status = 0 } in
    (set_of_name vs sets, tells_reach (graph_of question.graph) question.x sets c.in_ok-names.ensures.graph.apart c.in_ok-sets.ensures, ap F text)
