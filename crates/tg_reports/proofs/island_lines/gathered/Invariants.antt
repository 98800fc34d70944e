use Rattle.std.proofs.Common.{length, take}
use Rattle.std.specs.Map.{keys_of}
use Rattle.tg_islands.specs.Numbering.{AreCounted}
use Rattle.tg_reports.specs.ReportParts.{AreGathered}
use Rattle.tg_reports.proofs.island_lines.gathered.Given as goal

abbrev pub invariant-loop-name : goal.invariant-loop-name
invariant-loop-name l = record {
  counted : AreCounted l.islands (length l.gathered.items);
  so_far : AreGathered (keys_of l.graph) l.islands (take l.name-index l.names) l.gathered.items;
}
