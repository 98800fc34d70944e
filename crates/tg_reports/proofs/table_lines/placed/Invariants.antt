use Rattle.std.proofs.Common.{◌≡◌, take}
use Rattle.std.specs.Map.{keys_of}
use Rattle.tg_reports.specs.ReportParts.{placed}
use Rattle.tg_reports.proofs.table_lines.placed.Given as goal

abbrev pub invariant-loop-name : goal.invariant-loop-name
invariant-loop-name l = l.entries.items ≡ placed (keys_of l.graph) (take l.name-index l.names)
