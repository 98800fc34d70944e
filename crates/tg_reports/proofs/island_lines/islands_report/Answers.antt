use Rattle.std.proofs.Common.{◌≡◌, ℕ, List, ap, ◌∙◌}
use Rattle.std.specs.Map.{keys_of}
use Rattle.tg_graph.specs.GraphOf.{graph_of}
use Rattle.tg_text.specs.Canonical.{in_name_order}
use Rattle.tg_inputs.specs.Readings.{ReportText}
use Rattle.tg_reports.specs.Reports.{islands_text}
use Rattle.tg_reports.specs.ReportParts.{numbered_text}
use Rattle.tg_reports.proofs.IslandTests.{have_one_number, numbered_text_is, tells_islands}
use Rattle.tg_reports.proofs.island_lines.islands_report.Goals as goal

pub returns : goal.returns
returns c =
    let g = graph_of c.args.graph.now in
    let vs = keys_of c.args.graph.now in
    let numbers = c.in_ok-islands.islands in
    let apart = c.in_ok-names.ensures.graph.apart in
    let names = c.deref-2.ensures.value ∙ c.in_ok-names.ensures.names in
    let text : c.in_ok-lines_of.field-0.items ≡ islands_text (have_one_number vs numbers) (in_name_order vs) = c.in_ok-lines_of.ensures ∙ (ap (numbered_text vs numbers) names ∙ numbered_text_is g numbers apart c.in_ok-islands.ensures) in
    let F : List ℕ → ReportText = λ bytes. record { bytes = bytes; status = 0 } in
    (have_one_number vs numbers, tells_islands g numbers apart c.in_ok-islands.ensures, ap F text)
