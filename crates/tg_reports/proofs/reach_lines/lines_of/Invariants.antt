use Rattle.std.proofs.Common.{◌≡◌, take}
use Rattle.std.specs.Map.{keys_of}
use Rattle.tg_reports.specs.ReportParts.{reached_text}
use Rattle.tg_reports.proofs.reach_lines.lines_of.Given as goal

abbrev pub invariant-loop-name : goal.invariant-loop-name
invariant-loop-name l = l.text.items ≡ reached_text (keys_of l.graph) l.sets (take l.name-index l.names)
