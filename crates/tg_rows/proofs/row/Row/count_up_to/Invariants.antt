use Rattle.std.proofs.Common.{◌<◌, ◌≤◌}
use Rattle.tg_rows.specs.Rows.{AreAbove}
use Rattle.tg_rows.specs.Halves.{LastIsNotAbove}
use Rattle.tg_rows.proofs.row.Row.count_up_to.Given as goal

-- the target in front of `count` is not above y, and where one was left out, those from `count` on are
abbrev pub invariant-loop-place : goal.invariant-loop-place
invariant-loop-place l = record {
  order : l.count ≤ l.place;
  last : LastIsNotAbove l.self-inside.edges l.y l.count;
  above : l.count < l.place → AreAbove l.self-inside.edges l.y l.count;
}
