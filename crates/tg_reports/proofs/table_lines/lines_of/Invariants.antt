use Rattle.std.proofs.Common.{◌≡◌, take}
use Rattle.std.specs.List.{flat_map}
use Rattle.tg_reports.specs.ReportParts.{placed_line}
use Rattle.tg_reports.proofs.table_lines.lines_of.Given as goal

abbrev pub invariant-loop-entry : goal.invariant-loop-entry
invariant-loop-entry l = l.text.items ≡ flat_map (placed_line l.table l.entries) (take l.entry-index l.entries)
