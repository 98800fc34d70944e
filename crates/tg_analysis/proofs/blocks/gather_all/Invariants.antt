use Rattle.std.proofs.Common.{◌≤◌, length}
use Rattle.tg_analysis.specs.Gathered.{Gathers}
use Rattle.tg_analysis.specs.Tables.{block_start, AreBlocks}
use Rattle.tg_analysis.proofs.blocks.gather_all.Given as goal

abbrev pub invariant-loop-block : goal.invariant-loop-block
invariant-loop-block g l = record {
  few : length l.blocks.items ≤ l.workers;
  each : AreBlocks l.graph l.islands l.fn.right l.workers l.blocks.items;
  held : Gathers l.graph l.islands l.fn.right (block_start (length l.blocks.items) l.workers (length l.graph)) (length l.graph) l.held;
}

abbrev pub decreases-loop-block : goal.decreases-loop-block
decreases-loop-block g l = length l.blocks.items
