use Rattle.std.proofs.Common.{◌≡◌, ℕ, List, ap, ◌∙◌}
use Rattle.std.specs.Map.{keys_of}
use Rattle.tg_graph.specs.GraphOf.{graph_of}
use Rattle.tg_text.specs.Canonical.{in_name_order}
use Rattle.tg_inputs.specs.Readings.{ReportText}
use Rattle.tg_reports.specs.Reports.{table_text}
use Rattle.tg_reports.specs.ReportParts.{placed, placed_text}
use Rattle.tg_reports.proofs.TableTests.{says_yes, placed_text_is, tells_sharing}
use Rattle.tg_reports.proofs.table_lines.table_report.Goals as goal

pub returns : goal.returns
returns g c =
    let work = c.args.work.now in
    let vs = keys_of work.graph in
    let table = c.in_ok-table.table in
    let names = c.deref.ensures.value ∙ c.in_ok-names.ensures.names in
    let entries = c.deref-2.ensures.value ∙ (c.in_ok-entries.ensures ∙ ap (placed vs) names) in
    let text : c.in_ok-lines_of.field-0.items ≡ table_text (says_yes vs table) (in_name_order vs) = c.in_ok-lines_of.ensures ∙ (ap (placed_text table) entries ∙ placed_text_is vs table (in_name_order vs)) in
    let F : List ℕ → ReportText = λ bytes. record { bytes = bytes; status = 0 } in
    (says_yes vs table, tells_sharing (graph_of work.graph) work.right table c.in_ok-names.ensures.graph.apart c.in_ok-table.ensures, ap F text)
