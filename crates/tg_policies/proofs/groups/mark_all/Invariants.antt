use Rattle.tg_policies.proofs.GroupLaws.{AreJoined}
use Rattle.tg_policies.proofs.groups.mark_all.Given as goal

abbrev pub invariant-loop-place : goal.invariant-loop-place
invariant-loop-place l = AreJoined l.initial.marks l.marks l.others l.place
