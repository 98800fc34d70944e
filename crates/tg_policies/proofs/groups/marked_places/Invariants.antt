use Rattle.tg_policies.specs.PolicyParts.{AreMarked}
use Rattle.tg_policies.proofs.groups.marked_places.Given as goal

abbrev pub invariant-loop-place : goal.invariant-loop-place
invariant-loop-place l = AreMarked l.marks l.place l.places.items
