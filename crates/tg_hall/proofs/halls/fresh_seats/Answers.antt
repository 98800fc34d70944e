use Rattle.std.proofs.Common.{◌≡◌, ◌++◌, ◌∷◌, [], map, take, sym, ap, subst, ◌∙◌, arith, All}
use Rattle.std.proofs.lemmas.List.{map-append}
use Rattle.std.proofs.lemmas.List.Elements.{All-push}
use Rattle.tg_graph.specs.GraphOf.{graph_of}
use Rattle.tg_hall.specs.declared.seats.SeatState.{SeatState}
use Rattle.tg_hall.specs.Histories.{replay}
use Rattle.tg_hall.specs.Worlds.{SeatView, fresh_seat}
use Rattle.tg_hall.specs.Seats.{seen_seat, IsConsistent, Rests}
use Rattle.tg_hall.proofs.HallLemmas.{replicate-push}
use Rattle.tg_hall.proofs.halls.fresh_seats.Goals as goal

pub loop-made-preserved : goal.loop-made-preserved
loop-made-preserved c =
    let old = c.loop-made.seats.items in
    let seat = c.in_ok-seat.seat in
    let made = c.in_ok-push.ensures.items in
    let g = graph_of c.args.opening.now in
    let none : seat.taken ≡ 0 = ap (λ (s : SeatView). s.taken) c.in_ok-seat.ensures.seen in
    let rest : Rests g [] seat = record { within = omega (arith, none); replayed = ap graph_of c.in_ok-seat.ensures.graph ∙ ap (λ n. replay g (take n [])) (sym none) } in
    record {
      seen =
          ap (map seen_seat) made ∙ map-append seen_seat old (seat ∷ [])
          ∙ (λ i. c.loop-made.invariant.seen i ++ c.in_ok-seat.ensures.seen i ∷ []) ∙ replicate-push c.loop-made.made fresh_seat;
      rests = subst (All (Rests g [])) (sym made) (All-push (Rests g []) old seat c.loop-made.invariant.rests rest);
      consistent = subst (All IsConsistent) (sym made) (All-push IsConsistent old seat c.loop-made.invariant.consistent c.in_ok-seat.ensures.consistent);
      fresh = subst (All (λ (s : SeatState). s.commits ≡ 0)) (sym made) (All-push (λ (s : SeatState). s.commits ≡ 0) old seat c.loop-made.invariant.fresh c.in_ok-seat.ensures.fresh);
    }
