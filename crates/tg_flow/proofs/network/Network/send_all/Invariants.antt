use Rattle.std.proofs.Common.{◌<◌, ◌-◌, ◌^◌, length, false}
use Rattle.tg_flow.specs.Flows.{IsFlow, SameBut}
use Rattle.tg_flow.specs.Searches.{to_end, IsOver}
use Rattle.tg_flow.proofs.network.Network.send_all.Given as goal

abbrev pub invariant-loop-self : goal.invariant-loop-self
invariant-loop-self l =
    record {
      same : SameBut l.fn.self l.self;
      small : length l.self < 2 ^ 64;
      flow : IsFlow l.self l.x l.units;
      over : IsOver (to_end l.self false l.x) l.ways;
    }

abbrev pub decreases-loop-self : goal.decreases-loop-self
decreases-loop-self l = length l.self - l.units
