use Rattle.std.proofs.Common.{◌<◌, refl, sym, ap, subst, ◌∙◌, length, map, set}
use Rattle.std.proofs.lemmas.List.Elements.{All-set}
use Rattle.std.proofs.lemmas.Option.{slice_get_read}
use Rattle.tg_graph.specs.GraphOf.{graph_of}
use Rattle.tg_hall.specs.Histories.{count_of}
use Rattle.tg_hall.specs.Worlds.{World, seat_of, seat_in, Happens, Moves}
use Rattle.tg_hall.specs.Seats.{seen_seat, IsConsistent, Rests}
use Rattle.tg_hall.specs.HallFields.{world_of}
use Rattle.tg_hall.proofs.HallLemmas.{next_answers, at_index, grows, legal-later, numbered-later, room-later, rests-later, counted-later, view_none, view_seat, view_set, happens-none, happens-some}
use Rattle.tg_hall.proofs.halls.Hall.try_event.Goals as goal

pub event_at-requires-clause-answers : goal.event_at-requires-clause-answers
event_at-requires-clause-answers c =
    let h = c.self.inside in
    let g = graph_of h.opening in
    let s = c.index_mut.result.now in
    let count = c.len.ensures ∙ h.seats.ok.0 in
    let lt : c.in-Some.i < length h.seats.items = subst (λ n. c.in-Some.i < n) count c.in-Some.ensures.1 in
    next_answers g h.records.items s c.self.invariant.legal (at_index (Rests g h.records.items) h.seats.items c.in-Some.i s c.self.invariant.rests lt c.index_mut.ensures.value)

pub event_at-requires-clause-counted : goal.event_at-requires-clause-counted
event_at-requires-clause-counted c =
    let h = c.self.inside in
    let s = c.index_mut.result.now in
    let count = c.len.ensures ∙ h.seats.ok.0 in
    let lt : c.in-Some.i < length h.seats.items = subst (λ n. c.in-Some.i < n) count c.in-Some.ensures.1 in
    c.self.invariant.counted c.in-Some.i s (slice_get_read h.seats.items (length h.seats.items) c.in-Some.i s refl lt c.index_mut.ensures.value)
    ∙ ap (λ n. count_of n h.records.items) (c.in-Some.ensures.0 ∙ c.seat_in.ensures)

pub invariant_of-self : goal.invariant_of-self
invariant_of-self c =
    let h = c.self.inside in
    let g = graph_of h.opening in
    let s = c.index_mut.result.now in
    let t = c.event_at.new.seat in
    let later = c.event_at.new.records.items in
    let count = c.len.ensures ∙ h.seats.ok.0 in
    let lt : c.in-Some.i < length h.seats.items = subst (λ n. c.in-Some.i < n) count c.in-Some.ensures.1 in
    let rest = at_index (Rests g h.records.items) h.seats.items c.in-Some.i s c.self.invariant.rests lt c.index_mut.ensures.value in
    let sound = at_index IsConsistent h.seats.items c.in-Some.i s c.self.invariant.consistent lt c.index_mut.ensures.value in
    let k = seat_in c.args.event.now in
    let grown = grows (graph_of s.graph) h.cells h.records.items (seen_seat s) c.args.event.now c.event_at.result (seen_seat t) later c.event_at.ensures.moves in
    record {
      cells = c.self.invariant.cells;
      room = room-later g h.cells k h.records.items s later rest c.self.invariant.room grown;
      legal = legal-later g h.cells k h.records.items s later rest c.self.invariant.legal sound grown;
      numbered = numbered-later g h.cells k h.records.items s later rest c.self.invariant.numbered grown;
      rests = All-set (Rests g later) h.seats.items c.in-Some.i t (c.event_at.ensures.rests g rest) (rests-later g h.cells k h.records.items s later rest grown h.seats.items c.self.invariant.rests);
      consistent = All-set IsConsistent h.seats.items c.in-Some.i t c.event_at.ensures.consistent c.self.invariant.consistent;
      trail = c.event_at.ensures.trail g rest c.self.invariant.trail;
      counted = counted-later h.cells k c.in-Some.i h.records.items later h.seats.items (seen_seat s) t (c.in-Some.ensures.0 ∙ c.seat_in.ensures) grown c.event_at.ensures.counted c.self.invariant.counted;
    }

pub returns-in-None-clause-happens : goal.returns-in-None-clause-happens
returns-in-None-clause-happens c =
    let h = c.self.inside in
    happens-none c.args.self.now c.args.event.now
    (ap (λ w. seat_of w (seat_in c.args.event.now)) (sym c.self.view_is) ∙ view_none h (seat_in c.args.event.now) c.seat_in.result c.len.result c.seat_in.ensures (c.len.ensures ∙ h.seats.ok.0) c.in-None.ensures)

pub returns-in-Some-clause-happens : goal.returns-in-Some-clause-happens
returns-in-Some-clause-happens c =
    let h = c.self.inside in
    let g = graph_of h.opening in
    let s = c.index_mut.result.now in
    let t = c.event_at.new.seat in
    let later = c.event_at.new.records.items in
    let count = c.len.ensures ∙ h.seats.ok.0 in
    let lt : c.in-Some.i < length h.seats.items = subst (λ n. c.in-Some.i < n) count c.in-Some.ensures.1 in
    let rest = at_index (Rests g h.records.items) h.seats.items c.in-Some.i s c.self.invariant.rests lt c.index_mut.ensures.value in
    let k = seat_in c.args.event.now in
    let at = view_seat h k c.seat_in.result c.in-Some.i c.len.result s c.seat_in.ensures c.in-Some.ensures.0 c.in-Some.ensures.1 count c.index_mut.ensures.value in
    let next : World = record { opening = h.opening; cells = h.cells; history = later; seats = map seen_seat (set h.seats.items c.in-Some.i t) } in
    subst (λ w. Happens w c.args.event.now c.event_at.result next) c.self.view_is
    (happens-some (world_of h) next c.args.event.now c.event_at.result (seen_seat s) (seen_seat t) later at
    (subst (λ k. Moves k h.cells h.records.items (seen_seat s) c.args.event.now c.event_at.result (seen_seat t) later) rest.replayed c.event_at.ensures.moves)
    (view_set h k c.in-Some.i t later (c.in-Some.ensures.0 ∙ c.seat_in.ensures)))
