use Rattle.tg_sharing.proofs.LookedUp.{LookedUpTo}
use Rattle.tg_sharing.proofs.holders.lacks_holder.Given as goal

abbrev pub invariant-loop-position : goal.invariant-loop-position
invariant-loop-position l = LookedUpTo l.graph l.fn.rights l.y l.missing l.position
