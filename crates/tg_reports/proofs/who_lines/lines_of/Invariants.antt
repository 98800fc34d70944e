use Rattle.std.proofs.Common.{◌≡◌, take}
use Rattle.std.specs.Map.{keys_of}
use Rattle.tg_reports.specs.ReportParts.{marked_text}
use Rattle.tg_reports.proofs.who_lines.lines_of.Given as goal

abbrev pub invariant-loop-name : goal.invariant-loop-name
invariant-loop-name l = l.text.items ≡ marked_text (keys_of l.graph) l.marks (take l.name-index l.names)
