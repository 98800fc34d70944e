use Rattle.std.proofs.Common.{◌≡◌, ◌+◌, ◌<◌, length, All, MatchOption, drop, [], map, sym, ap, subst, ◌∙◌, arith, OnOk, OnErr}
use Rattle.std.specs.Prelude.{slice_get}
use Rattle.std.specs.Vec.{with_items}
use Rattle.std.proofs.lemmas.List.{length-map, with_items_is}
use Rattle.std.proofs.lemmas.Option.{slice_get_within, get_or_from_slice_get}
use Rattle.tg_graph.specs.GraphOf.{graph_of}
use Rattle.tg_hall.specs.declared.seats.SeatState.{SeatState}
use Rattle.tg_hall.specs.Worlds.{World, SeatView, with_seat}
use Rattle.tg_hall.specs.Acts.{is_free, caught_up, IsBehind}
use Rattle.tg_hall.specs.Seats.{seen_seat, IsConsistent, Rests, AreCounted}
use Rattle.tg_hall.specs.Trails.{TakesOver}
use Rattle.tg_hall.proofs.TrailLemmas.{starts-within, leads-left}
use Rattle.tg_hall.proofs.TakingOver.{at_place, seen_at, by_result, on_ok_then, rests-over, consistent-over, counted-over, world-over}
use Rattle.tg_hall.proofs.halls.Hall.try_take_over.Goals as goal

pub from-positions-requires : goal.from-positions-requires
from-positions-requires c = let h = c.self.inside in starts-within (graph_of h.opening) h.records.items h.trail c.self.invariant.trail

pub take_over-requires-clause-within : goal.take_over-requires-clause-within
take_over-requires-clause-within c =
    let h = c.self.inside in
    let b = c.requires.behind in
    let one = slice_get_within c.args.self.now.seats c.args.index b.seat b.seat_is in
    let other = slice_get_within c.args.self.now.seats c.args.other b.source b.source_is in
    let same : length c.args.self.now.seats ≡ length h.seats.items = ap (λ (w : World). length w.seats) (sym c.self.view_is) ∙ length-map h.seats.items seen_seat in
    let here = ap length c.as_mut_slice.ensures.value in
    (omega (arith, one, same, here), omega (arith, other, same, here))

pub take_over-requires-clause-leads : goal.take_over-requires-clause-leads
take_over-requires-clause-leads c s t e f =
    let h = c.self.inside in
    let g = graph_of h.opening in
    let i = c.args.index in
    let j = c.args.other in
    let b = subst (λ w. IsBehind w (i + 1) i j) (sym c.self.view_is) c.requires.behind in
    let left = c.from-positions.result.now in
    let mine = ap (λ xs. slice_get xs i) (sym c.as_mut_slice.ensures.value) ∙ e in
    let theirs = ap (λ xs. slice_get xs j) (sym c.as_mut_slice.ensures.value) ∙ f in
    let behind = ap (λ (v : SeatView). v.taken) (seen_at h i s b.seat mine b.seat_is) in
    let all = ap (λ (v : SeatView). v.taken) (seen_at h j t b.source theirs b.source_is) ∙ b.none_left in
    let few : s.taken < length h.records.items = let lt = b.some_left in omega (arith, lt, behind) in
    let read : c.taken.result ≡ s.taken = c.taken.ensures ∙ ap (λ (s : SeatState). s.taken) (c.index.ensures ∙ get_or_from_slice_get h.seats.items i s c.index.result.now mine) in
    leads-left g h.records.items h.trail s t left c.self.invariant.trail
    (at_place (Rests g h.records.items) h.seats.items i s c.self.invariant.rests mine)
    (at_place (Rests g h.records.items) h.seats.items j t c.self.invariant.rests theirs)
    few all
    (subst (λ n. MatchOption (slice_get h.trail.starts.items n) (left ≡ []) (λ start. left ≡ drop start h.trail.positions.items)) read c.from-positions.ensures)

pub invariant_of-self : goal.invariant_of-self
invariant_of-self c =
    let h = c.self.inside in
    let g = graph_of h.opening in
    let i = c.args.index in
    let j = c.args.other in
    let b = subst (λ w. IsBehind w (i + 1) i j) (sym c.self.view_is) c.requires.behind in
    let free = ap (λ w. is_free w (i + 1)) c.self.view_is ∙ c.requires.free in
    let now = c.take_over.new.seats in
    let ok = subst (λ xs. OnOk c.take_over.result (TakesOver xs i j now)) c.as_mut_slice.ensures.value c.take_over.ensures.ok in
    let err = subst (λ xs. OnErr c.take_over.result (now ≡ xs)) c.as_mut_slice.ensures.value c.take_over.ensures.err in
    let kept : (with_items h.seats now).items ≡ now = with_items_is h.seats now (c.take_over.auto.seats ∙ ap length c.as_mut_slice.ensures.value ∙ sym h.seats.ok.0) in
    record {
      cells = c.self.invariant.cells;
      room = c.self.invariant.room;
      legal = c.self.invariant.legal;
      numbered = c.self.invariant.numbered;
      rests = subst (All (Rests g h.records.items)) (sym kept) (by_result (All (Rests g h.records.items)) c.take_over.result (TakesOver h.seats.items i j now) h.seats.items now ok err (rests-over h c.self.invariant i j b free now) c.self.invariant.rests);
      consistent = subst (All IsConsistent) (sym kept) (by_result (All IsConsistent) c.take_over.result (TakesOver h.seats.items i j now) h.seats.items now ok err (consistent-over h c.self.invariant i j b free now) c.self.invariant.consistent);
      trail = c.self.invariant.trail;
      counted = subst (AreCounted h.records.items) (sym kept) (by_result (AreCounted h.records.items) c.take_over.result (TakesOver h.seats.items i j now) h.seats.items now ok err (counted-over h c.self.invariant i j b free now) c.self.invariant.counted);
    }

pub returns-clause-took : goal.returns-clause-took
returns-clause-took c =
    let h = c.self.inside in
    let i = c.args.index in
    let j = c.args.other in
    let b = subst (λ w. IsBehind w (i + 1) i j) (sym c.self.view_is) c.requires.behind in
    let free = ap (λ w. is_free w (i + 1)) c.self.view_is ∙ c.requires.free in
    let now = c.take_over.new.seats in
    let ok = subst (λ xs. OnOk c.take_over.result (TakesOver xs i j now)) c.as_mut_slice.ensures.value c.take_over.ensures.ok in
    let kept : (with_items h.seats now).items ≡ now = with_items_is h.seats now (c.take_over.auto.seats ∙ ap length c.as_mut_slice.ensures.value ∙ sym h.seats.ok.0) in
    let seen : map seen_seat (with_items h.seats now).items ≡ map seen_seat now = ap (map seen_seat) kept in
    on_ok_then c.take_over.result ok
    (λ t.
    (λ k. record { opening = h.opening; cells = h.cells; history = h.records.items; seats = seen k })
    ∙ world-over h c.self.invariant i j b free now t
    ∙ ap (λ w. with_seat w (i + 1) (caught_up w) w.history) c.self.view_is)
