use Rattle.std.proofs.Common.{◌-◌, ◌≤◌, length}
use Rattle.tg_rows.specs.Rows.{AreAbove}
use Rattle.tg_rows.specs.Halves.{LastIsNotAbove}
use Rattle.tg_rows.proofs.row.Row.halve_up_to.Given as goal

-- the target in front of `low` is not above y, and those from `high` on are
abbrev pub invariant-loop-high : goal.invariant-loop-high
invariant-loop-high l = record {
  order : l.low ≤ l.high;
  within : l.high ≤ length l.self-inside.edges;
  last : LastIsNotAbove l.self-inside.edges l.y l.low;
  above : AreAbove l.self-inside.edges l.y l.high;
}

abbrev pub decreases-loop-high : goal.decreases-loop-high
decreases-loop-high l = l.high - l.low
