use Rattle.std.proofs.Common.{length, ◌<◌, ◌∙◌, ap, arith}
use Rattle.tg_journal.proofs.Rows.{seen_read, seen_known, count_is, told_there}
use Rattle.std.specs.List.{slice_get}
use Rattle.tg_journal.proofs.NoteFields.{known_of}
use Rattle.tg_journal.proofs.pass.Pass.compare.Goals as goal

pub returns-clause-agrees : goal.returns-clause-agrees
returns-clause-agrees g c =
    let size = ap (λ k. length k.seen) c.self.view_is in
    let count = count_is known_of c.self.inside.notes.items c.self.inside.count c.self.invariant.0.0 c.self.invariant.0.1 in
    let within : c.args.place < c.self.inside.count = omega arith in
    let knows = seen_known known_of c.self.inside.notes.items c.self.inside.count c.args.place c.index_mut.result.now within c.self.invariant.0 c.index_mut.ensures.value in
    let read = seen_read known_of c.self.inside.notes.items c.self.inside.count c.args.place c.index_mut.result.now within c.self.invariant.0 c.index_mut.ensures.value in
    told_there c.args.note.known c.index_mut.result.now.known _ knows (read ∙ ap (λ k. slice_get k.seen c.args.place) c.self.view_is) c.compare.ensures.1
