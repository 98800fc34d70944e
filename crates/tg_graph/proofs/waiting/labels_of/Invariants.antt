use Rattle.std.proofs.Common.{◌≡◌, length}
use Rattle.std.specs.Map.{keys_of}
use Rattle.tg_rows.specs.Rows.{row_number}
use Rattle.tg_graph.proofs.WaitingLabels.{IsCopied}
use Rattle.tg_graph.proofs.waiting.labels_of.Given as goal

abbrev pub invariant-loop-place : goal.invariant-loop-place
invariant-loop-place l = record {
  for_each : length l.labels ≡ length l.graph;
  copied : IsCopied (row_number l.graph l.source) (keys_of l.graph) l.labels l.place;
}
