use Rattle.std.proofs.Common.{◌≡◌, map, replicate, All, []}
use Rattle.tg_graph.specs.GraphOf.{graph_of}
use Rattle.tg_hall.specs.declared.seats.SeatState.{SeatState}
use Rattle.tg_hall.specs.Worlds.{fresh_seat}
use Rattle.tg_hall.specs.Seats.{seen_seat, IsConsistent, Rests}
use Rattle.tg_hall.proofs.halls.fresh_seats.Given as goal

abbrev pub invariant-loop-made : goal.invariant-loop-made
invariant-loop-made l = record {
  seen : map seen_seat l.seats.items ≡ replicate l.made fresh_seat;
  rests : All (Rests (graph_of l.opening) []) l.seats.items;
  consistent : All IsConsistent l.seats.items;
  fresh : All (λ (s : SeatState). s.commits ≡ 0) l.seats.items;
}
