use Rattle.std.proofs.Common.{◌≡◌, take, map}
use Rattle.std.specs.declared.option.Option.TheVariants.{None}
use Rattle.once_cell.specs.Once.{cell_name}
use Rattle.tg_journal.proofs.NoteFields.{cell_of, known_of}
use Rattle.tg_journal.proofs.journal.Journal.pass.Given as goal

abbrev pub invariant-loop-cell : goal.invariant-loop-cell
invariant-loop-cell g l = record {
  cells : map cell_of l.notes.items ≡ map cell_name (take l.cell-index l.cell-items);
  known : map known_of l.notes.items ≡ map (λ _. None) (map cell_of l.notes.items);
}
