use Rattle.std.proofs.Common.{◌≡◌, ◌≤◌, length, max, take}
use Rattle.tg_journal.specs.Lists.{Begins}
use Rattle.tg_journal.specs.Pass.{IsPass, Remembers, KnowsFromAsBefore}
use Rattle.tg_journal.proofs.journal.Journal.meet.Given as goal

abbrev pub invariant-loop-place : goal.invariant-loop-place
invariant-loop-place g l = record {
  number : l.pass.number ≡ l.fn.pass.number;
  cells : l.pass.cells ≡ l.fn.pass.cells;
  mine : l.pass.mine ≡ l.fn.pass.mine;
  known : Remembers l.fn.pass l.pass;
  pass : IsPass g.R.Entry.seat_of l.pass;
  others : KnowsFromAsBefore (length l.pass.seen) l.fn.pass l.pass;
  begins : Begins l.fn.pass.seen l.pass.seen;
  reaches : l.place ≤ length l.pass.seen;
  longer : length l.pass.seen ≡ max (length l.fn.pass.seen) l.place;
  met : take l.place l.pass.seen ≡ take l.place l.fn.front.seen;
}
