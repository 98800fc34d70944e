use Rattle.std.proofs.Common.{length, ◌<◌, sym, ◌∙◌, ap, arith, refl}
use Rattle.std.specs.List.{slice_get}
use Rattle.once_cell.specs.Once.{cell_name}
use Rattle.tg_journal.proofs.Rows.{not_past, look_finds, name_there}
use Rattle.tg_journal.proofs.journal.Journal.at.Goals as goal

pub get_as-requires : goal.get_as-requires
get_as-requires g c =
    name_there cell_name c.self.inside.cells.items c.args.self.now c.args.place c.args.place c.note-note.result.cell c.index-cell.result.now c.self.view_is refl (ap (λ k. slice_get k c.args.place) (sym c.requires) ∙ c.note-note.ensures.cell) c.index-cell.ensures

pub returns : goal.returns
returns g c =
    let size : c.args.place < length c.args.pass.now.seen = omega arith in
    look_finds (λ r. r.now) c.get_as.result c.note-note.result.known c.get_as.new.note.known (λ e. not_past c.args.pass.now.seen c.args.place size (sym c.note-note.ensures.known ∙ e)) c.get_as.ensures.value ∙ c.note-note.ensures.known
