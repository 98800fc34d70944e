use Rattle.std.proofs.Common.{length, ◌∙◌, ap, arith}
use Rattle.tg_journal.proofs.Rows.{all_read, all_length}
use Rattle.std.specs.List.{slice_get}
use Rattle.tg_journal.proofs.NoteFields.{known_of}
use Rattle.tg_journal.proofs.pass.Front.note.Goals as goal

pub returns-clause-known : goal.returns-clause-known
returns-clause-known g c =
    let size = ap (λ k. length k.seen) c.self.view_is in
    let count = all_length known_of c.self.inside.notes.items c.self.invariant in
    ap known_of c.duplicate.ensures ∙ all_read known_of c.self.inside.notes.items c.args.place c.index.result.now (omega arith) c.self.invariant c.index.ensures ∙ ap (λ k. slice_get k.seen c.args.place) c.self.view_is
