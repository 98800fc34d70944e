use Rattle.std.proofs.Common.{ℕ, List}
use Rattle.tg_analysis.specs.Cases.{AreMembersFrom, is_marked}
use Rattle.tg_analysis.proofs.MemberLists.{IsPassed}
use Rattle.tg_analysis.proofs.members.Members.first_beyond.Given as goal

abbrev pub invariant-loop : goal.invariant-loop
invariant-loop l = (numbers : List ℕ) → AreMembersFrom numbers 0 l.self.firsts.items l.self.nexts.items → IsPassed numbers (is_marked l.allowed) l.number l.counter l.next
