use Rattle.std.proofs.Common.{◌≡◌, ◌-◌, length}
use Rattle.tg_analysis.specs.Cases.{AreMembersFrom}
use Rattle.tg_analysis.proofs.members.Members.of.Given as goal

abbrev pub invariant-loop-done : goal.invariant-loop-done
invariant-loop-done l = record {
  members : AreMembersFrom l.numbers (length l.numbers - l.done) l.members.firsts.items l.members.nexts.items;
  len : length l.members.firsts.items ≡ l.count;
}
