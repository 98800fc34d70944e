use Rattle.std.proofs.Common.{◌≡◌, [], length}
use Rattle.tg_words.specs.Lines.{words_of}
use Rattle.tg_text.proofs.PolicyReads.{operands_behind}
use Rattle.tg_text.proofs.policy_text.operands_at.Given as goal

abbrev pub invariant-loop-word : goal.invariant-loop-word
invariant-loop-word l = operands_behind l.operands.items (words_of l.rest) ≡ operands_behind [] (words_of l.words)

abbrev pub decreases-loop-word : goal.decreases-loop-word
decreases-loop-word l = length l.rest
