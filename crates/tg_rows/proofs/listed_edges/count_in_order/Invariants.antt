use Rattle.std.proofs.Common.{length}
use Rattle.tg_rows.proofs.listed_edges.count_in_order.Given as goal

abbrev pub decreases-loop-few : goal.decreases-loop-few
decreases-loop-few l = length l.few
