use Rattle.std.proofs.Common.{◌≡◌, length}
use Rattle.tg_flow.specs.Flows.{SameBut}
use Rattle.tg_flow.proofs.Limits.{AreAtRest}
use Rattle.tg_flow.proofs.network.Network.take_back_all.Given as goal

abbrev pub invariant-loop-number : goal.invariant-loop-number
invariant-loop-number l =
    record {
      same : SameBut l.initial.self l.self;
      rest : AreAtRest l.number l.self;
      end : l.number-end ≡ length l.self;
    }
