use Rattle.std.proofs.Common.{take}
use Rattle.tg_islands.specs.Linked.{neighbours}
use Rattle.tg_sharing.specs.Flooding.{Meets}
use Rattle.tg_sharing.proofs.flooding.Flood.meet_neighbours.Given as goal

abbrev pub invariant-loop-neighbour : goal.invariant-loop-neighbour
invariant-loop-neighbour l = Meets (take l.neighbour-index (neighbours l.links l.position)) l.initial.self l.self
