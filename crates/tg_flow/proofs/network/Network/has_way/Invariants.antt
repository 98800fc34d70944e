use Rattle.tg_flow.specs.Ways.{level_at, HasWay}
use Rattle.tg_flow.proofs.network.Network.has_way.Given as goal

abbrev pub invariant-loop-next : goal.invariant-loop-next
invariant-loop-next l = HasWay l.self l.ways l.position → HasWay l.self l.ways l.x

abbrev pub decreases-loop-next : goal.decreases-loop-next
decreases-loop-next l = level_at l.ways l.position
