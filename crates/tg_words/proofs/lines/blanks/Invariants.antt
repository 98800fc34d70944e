use Rattle.std.proofs.Common.{◌≡◌, drop}
use Rattle.tg_words.specs.Lines.{words_of}
use Rattle.tg_words.proofs.lines.blanks.Given as goal

abbrev pub invariant-loop-i : goal.invariant-loop-i
invariant-loop-i l = words_of (drop l.i l.bytes) ≡ words_of l.bytes
