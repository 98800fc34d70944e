use Rattle.std.proofs.Common.{◌≡◌, take, map}
use Rattle.std.specs.declared.option.Option.TheVariants.{Some}
use Rattle.tg_journal.proofs.NoteFields.{cell_of, known_of}
use Rattle.tg_journal.proofs.journal.Journal.front.Given as goal

abbrev pub invariant-loop-place : goal.invariant-loop-place
invariant-loop-place g l = record {
  cells : map cell_of l.notes.items ≡ take l.place l.fn.self;
  known : map known_of l.notes.items ≡ map Some (take l.place l.fn.pass.seen);
}
