use Rattle.std.proofs.Common.{◌≡◌, length}
use Rattle.tg_analysis.specs.Cases.{AreHeads}
use Rattle.tg_analysis.proofs.heads.Heads.of.Given as goal

abbrev pub invariant-loop-place : goal.invariant-loop-place
invariant-loop-place l = record {
  heads : AreHeads l.numbers l.place l.heads.places.items l.heads.order.items;
  len : length l.heads.places.items ≡ l.count;
}
