use Rattle.std.proofs.Common.{◌≡◌, take, length}
use Rattle.std.specs.List.{zip}
use Rattle.tg_rows.proofs.edges_to_all.labels_to_all.Given as goal

-- the labels so far
abbrev pub invariant-loop-place : goal.invariant-loop-place
invariant-loop-place l = record {
  same : zip l.names l.labels.items ≡ take l.place l.list;
  long : length l.labels.items ≡ l.place;
}
