use Rattle.std.proofs.Common.{◌≡◌, [], replicate}
use Rattle.tg_reports.proofs.island_lines.empty.Given as goal

abbrev pub invariant-loop : goal.invariant-loop
invariant-loop l = l.gathered.items ≡ replicate l.counter []
