use Rattle.std.proofs.Common.{arith, sym, ◌∙◌}
use Rattle.tg_rows.specs.Rows.{row_number}
use Rattle.tg_text.proofs.Labels.{row-fails, row-more}
use Rattle.tg_text.proofs.RowLines.{past_end}
use Rattle.tg_text.proofs.canonical.row_letters_suffice.Goals as goal
use Rattle.tg_text.proofs.canonical.row_letters_suffice.Goals.{in-Some+else-not-has_letters, in_default}

pub returns-then-not-has_letters : goal.returns-then-not-has_letters
returns-then-not-has_letters c =
    sym (row-fails c.args.version (row_number c.args.graph.now c.args.position) c.loop-place.place _ (sym c.in-Some.ensures) (sym c.has_letters.ensures ∙ c.if-not-has_letters.true))

pub loop-place-preserved : goal.loop-place-preserved
loop-place-preserved c =
    let row = row_number c.args.graph.now c.args.position in
    elim c.match-row_at.branch [
      | in-Some+else-not-has_letters w ↦ row-more c.args.version row c.loop-place.place _ (sym w.in-Some.ensures) c.loop-place.invariant (sym w.has_letters.ensures ∙ w.if-not-has_letters.false)
      | in_default w ↦ absurd (past_end row c.loop-place.place (omega (arith, c.row_len-place-end.ensures)) (sym c.row_at.ensures ∙ w.in_default.is))
    ]
