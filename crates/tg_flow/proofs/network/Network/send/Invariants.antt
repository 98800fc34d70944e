use Rattle.std.proofs.Common.{ℕ}
use Rattle.tg_flow.specs.Flows.{IsFlow, IsCarried, SameBut}
use Rattle.tg_flow.specs.Ways.{level_at, HasWay}
use Rattle.tg_flow.proofs.network.Network.send.Given as goal

abbrev pub invariant-loop-next : goal.invariant-loop-next
invariant-loop-next l =
    record {
      way : HasWay l.self l.ways l.position;
      same : SameBut l.fn.self l.self;
      carried : (units : ℕ) → IsFlow l.fn.self l.x units → IsCarried l.self l.x units l.position;
    }

abbrev pub decreases-loop-next : goal.decreases-loop-next
decreases-loop-next l = level_at l.ways l.position
