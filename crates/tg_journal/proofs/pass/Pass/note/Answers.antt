use Rattle.std.proofs.Common.{length, ◌∙◌, ap, arith}
use Rattle.tg_journal.proofs.Rows.{seen_read, count_is}
use Rattle.std.specs.List.{slice_get}
use Rattle.tg_journal.proofs.NoteFields.{known_of}
use Rattle.tg_journal.proofs.pass.Pass.note.Goals as goal

pub returns-clause-known : goal.returns-clause-known
returns-clause-known g c =
    let size = ap (λ k. length k.seen) c.self.view_is in
    let count = count_is known_of c.self.inside.notes.items c.self.inside.count c.self.invariant.0.0 c.self.invariant.0.1 in
    ap known_of c.duplicate.ensures ∙ seen_read known_of c.self.inside.notes.items c.self.inside.count c.args.place c.index.result.now (omega arith) c.self.invariant.0 c.index.ensures ∙ ap (λ k. slice_get k.seen c.args.place) c.self.view_is
