use Rattle.tg_words.specs.Lines.{NoLineFeedBefore}
use Rattle.tg_words.proofs.lines.line_end_near.Given as goal

abbrev pub invariant-loop-i : goal.invariant-loop-i
invariant-loop-i l = NoLineFeedBefore l.text l.i
