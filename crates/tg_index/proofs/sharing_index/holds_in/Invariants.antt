use Rattle.tg_index.proofs.ByTarget.{NoneHolds}
use Rattle.tg_index.proofs.sharing_index.holds_in.Given as goal

abbrev pub invariant-loop-position : goal.invariant-loop-position
invariant-loop-position l = NoneHolds l.graph l.islands l.right l.number l.y l.position
