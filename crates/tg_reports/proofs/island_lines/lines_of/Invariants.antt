use Rattle.std.proofs.Common.{◌≡◌, take}
use Rattle.std.specs.Map.{keys_of}
use Rattle.std.specs.List.{flat_map}
use Rattle.tg_reports.specs.ReportParts.{numbered_line}
use Rattle.tg_reports.proofs.island_lines.lines_of.Given as goal

abbrev pub invariant-loop-name : goal.invariant-loop-name
invariant-loop-name l = l.text.items ≡ flat_map (numbered_line (keys_of l.graph) l.islands l.names) (take l.name-index l.names)
