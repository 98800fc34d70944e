use Rattle.std.proofs.Common.{◌≡◌, ◌++◌, map, take}
use Rattle.tg_reports.specs.ReportParts.{digit_at}
use Rattle.tg_reports.proofs.table_lines.append_digits.Given as goal

abbrev pub invariant-loop-entry : goal.invariant-loop-entry
invariant-loop-entry l = l.text.items ≡ l.fn.text.items ++ map (λ f. digit_at l.table l.i f.1) (take l.entry-index l.entries)
