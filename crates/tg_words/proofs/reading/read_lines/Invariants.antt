use Rattle.std.proofs.Common.{◌≡◌, ◌+◌, ◌≤◌, length}
use Rattle.tg_words.specs.Lines.{lines_of}
use Rattle.tg_words.specs.Reading.{after_lines}
use Rattle.tg_words.proofs.reading.read_lines.Given as goal

abbrev pub invariant-loop-rest : goal.invariant-loop-rest
invariant-loop-rest g l = record {
  so_far : after_lines g.T.Items.item (l.line + 1) (g.T.Items.made l.items) (lines_of l.rest) ≡ after_lines g.T.Items.item 1 (g.T.Items.made l.fn.items) (lines_of l.text);
  sound : g.T.Items.IsSound l.items;
  count : l.line + length (lines_of l.rest) ≡ length (lines_of l.text);
  room : l.line + length l.rest ≤ length l.text;
}

abbrev pub decreases-loop-rest : goal.decreases-loop-rest
decreases-loop-rest g l = length l.rest
