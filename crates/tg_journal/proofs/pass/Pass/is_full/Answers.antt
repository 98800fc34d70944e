use Rattle.std.proofs.Common.{subst}
use Rattle.tg_journal.proofs.Rows.{is_pass}
use Rattle.tg_journal.specs.Pass.{IsPass}
use Rattle.tg_journal.proofs.NoteFields.{cell_of, known_of}
use Rattle.tg_journal.proofs.pass.Pass.is_full.Goals as goal

pub returns-clause-pass : goal.returns-clause-pass
returns-clause-pass g c = subst (IsPass g.R.Entry.seat_of) c.self.view_is (is_pass g.R.Entry.seat_of known_of cell_of _ _ _ _ c.self.inside.mine.cap c.self.invariant)
