use Rattle.std.proofs.Common.{◌≤◌, ◌-◌, length}
use Rattle.tg_words.specs.Lines.{NoLineFeedBefore}
use Rattle.tg_words.proofs.lines.line_end.Given as goal

abbrev pub invariant-loop-clear : goal.invariant-loop-clear
invariant-loop-clear l = (l.clear ≤ length l.text) × NoLineFeedBefore l.text l.clear

abbrev pub decreases-loop-clear : goal.decreases-loop-clear
decreases-loop-clear l = length l.text - l.clear
