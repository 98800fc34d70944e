use Rattle.std.proofs.Common.{◌≡◌, take, true}
use Rattle.tg_rows.specs.Rows.{row_number}
use Rattle.tg_text.proofs.Labels.{row_suffices}
use Rattle.tg_text.proofs.canonical.row_letters_suffice.Given as goal

abbrev pub invariant-loop-place : goal.invariant-loop-place
invariant-loop-place l = row_suffices l.version (take l.place (row_number l.graph l.position)) ≡ true
