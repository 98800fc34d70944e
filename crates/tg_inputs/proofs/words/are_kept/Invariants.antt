use Rattle.std.proofs.Common.{◌≡◌, length, map}
use Rattle.tg_inputs.specs.Calls.{are_keeps}
use Rattle.tg_inputs.proofs.words.are_kept.Given as goal

abbrev pub invariant-loop-left : goal.invariant-loop-left
invariant-loop-left l = are_keeps (map (λ word. word.now) l.left) ≡ are_keeps (map (λ word. word.now) l.fn.words)

abbrev pub decreases-loop-left : goal.decreases-loop-left
decreases-loop-left l = length l.left
