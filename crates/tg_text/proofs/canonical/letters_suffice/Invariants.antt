use Rattle.std.proofs.Common.{◌≡◌, take, true}
use Rattle.tg_text.proofs.Labels.{rows_suffice}
use Rattle.tg_text.proofs.canonical.letters_suffice.Given as goal

abbrev pub invariant-loop-vertex : goal.invariant-loop-vertex
invariant-loop-vertex l = rows_suffice l.version (take l.vertex l.graph) ≡ true
