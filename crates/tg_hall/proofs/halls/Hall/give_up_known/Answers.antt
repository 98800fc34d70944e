use Rattle.std.proofs.Common.{◌≡◌, All, length, map, sym, ap, subst, ◌∙◌}
use Rattle.std.specs.Vec.{with_items}
use Rattle.std.proofs.lemmas.List.{with_items_is}
use Rattle.tg_graph.specs.GraphOf.{graph_of}
use Rattle.tg_hall.specs.Seats.{seen_seat, IsConsistent, Rests, AreCounted, given_up}
use Rattle.tg_hall.proofs.GivingUp.{seen-given_up, rests-given_up, consistent-given_up, counted-given_up}
use Rattle.tg_hall.proofs.halls.Hall.give_up_known.Goals as goal

pub invariant_of-self : goal.invariant_of-self
invariant_of-self c =
    let h = c.self.inside in
    let g = graph_of h.opening in
    let now = c.give_up_all.new.seats in
    let here : (with_items h.seats now).items ≡ map given_up h.seats.items =
    with_items_is h.seats now (c.give_up_all.auto.seats ∙ ap length c.as_mut_slice.ensures.value ∙ sym h.seats.ok.0)
    ∙ c.give_up_all.ensures ∙ ap (map given_up) c.as_mut_slice.ensures.value in
    record {
      cells = c.self.invariant.cells;
      room = c.self.invariant.room;
      legal = c.self.invariant.legal;
      numbered = c.self.invariant.numbered;
      rests = subst (All (Rests g h.records.items)) (sym here) (rests-given_up g h.records.items h.seats.items c.self.invariant.rests);
      consistent = subst (All IsConsistent) (sym here) (consistent-given_up h.seats.items c.self.invariant.consistent);
      trail = c.self.invariant.trail;
      counted = subst (AreCounted h.records.items) (sym here) (counted-given_up h.records.items h.seats.items c.self.invariant.counted);
    }

pub returns : goal.returns
returns c =
    let h = c.self.inside in
    let now = c.give_up_all.new.seats in
    let seen : map seen_seat (with_items h.seats now).items ≡ map seen_seat h.seats.items =
    ap (map seen_seat)
    (with_items_is h.seats now (c.give_up_all.auto.seats ∙ ap length c.as_mut_slice.ensures.value ∙ sym h.seats.ok.0)
    ∙ c.give_up_all.ensures ∙ ap (map given_up) c.as_mut_slice.ensures.value)
    ∙ seen-given_up h.seats.items in
    (λ k. record { opening = h.opening; cells = h.cells; history = h.records.items; seats = seen k }) ∙ c.self.view_is
