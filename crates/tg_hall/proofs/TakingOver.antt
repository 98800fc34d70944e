-- A free seat that comes to where another seat stands.
use Rattle.std.proofs.Common.{◌≡◌, ℕ, ◌+◌, ◌-◌, true, List, length, take, set, map, All, Option, None, Some, IfSome, Result, Ok, Err, OnOk, OnErr, refl, sym, ap, subst, ◌∙◌, arith}
use Rattle.std.specs.Prelude.{slice_get}
use Rattle.std.specs.Option.{option_map}
use Rattle.std.proofs.lemmas.List.{map-set}
use Rattle.std.proofs.lemmas.List.Elements.{All-set}
use Rattle.std.proofs.lemmas.Option.{none-some, same_Some, slice_get-map, slice_get_within, get_or_from_slice_get}
use Rattle.tg_graph.specs.GraphOf.{graph_of}
use Rattle.tg_hall.specs.declared.seats.OpenSession.{OpenSession}
use Rattle.tg_hall.specs.declared.seats.SeatState.{SeatState}
use Rattle.tg_hall.specs.declared.halls.Hall.TheInside.{Inside}
use Rattle.tg_hall.specs.Histories.{replay}
use Rattle.tg_hall.specs.Worlds.{SeatView, with_seat}
use Rattle.tg_hall.specs.Acts.{is_free, caught_up, IsBehind}
use Rattle.tg_hall.specs.Seats.{seen_seat, IsSessionOn, IsConsistent, Rests, AreCounted}
use Rattle.tg_hall.specs.HallFields.{world_of, IsHall}
use Rattle.tg_hall.specs.Trails.{TakesOver}
use Rattle.tg_hall.proofs.HallLemmas.{counted-same}
use Rattle.tg_hall.proofs.Learning.{free_seat, seat_behind}

-- what holds of each seat holds of the one at an index
pub at_place : (P : SeatState → Type 0) (xs : List SeatState) (i : ℕ) (s : SeatState) → All P xs → slice_get xs i ≡ Some s → P s
at_place P xs i s h e = subst P (get_or_from_slice_get xs i s s e) (h i s (slice_get_within xs i s e))

-- the seat that the world shows at an index
pub seen_at : (h : Inside) (i : ℕ) (s : SeatState) (v : SeatView) → slice_get h.seats.items i ≡ Some s → slice_get (world_of h).seats i ≡ Some v → seen_seat s ≡ v
seen_at h i s v e f = same_Some (seen_seat s) v (sym (slice_get-map seen_seat h.seats.items i ∙ ap (option_map seen_seat) e) ∙ f)

not_open : (o : Option OpenSession) → option_map (λ (o : OpenSession). o.kept.items) o ≡ None → o ≡ None
not_open None e = refl
not_open (Some o) e = absurd (none-some o.kept.items (sym e))

pub by_result : {E T : Type 0} (P : List SeatState → Type 0) (r : Result T E) (A : Type 0) (old new : List SeatState) → OnOk r A → OnErr r (new ≡ old) → (A → P new) → P old → P new
by_result P (Ok x) A old new a e f p = f a
by_result P (Err x) A old new a e f p = subst P (sym e) p

pub on_ok_then : {E T A B : Type 0} (r : Result T E) → OnOk r A → (A → B) → OnOk r B
on_ok_then (Ok x) a f = f a
on_ok_then (Err x) a f = tt

module _ (h : Inside) (inv : IsHall h) (i j : ℕ) (b : IsBehind (world_of h) (i + 1) i j) (free : is_free (world_of h) (i + 1) ≡ true) (seats : List SeatState) (t : TakesOver h.seats.items i j seats) where
  none_open : t.seat.session ≡ None
  none_open = not_open t.seat.session (ap (λ (v : SeatView). v.session) (seen_at h i t.seat b.seat t.seat_is b.seat_is) ∙ free_seat (world_of h) (i + 1) b.seat (seat_behind (world_of h) (i + 1) i j b) free)

  all : t.after.taken ≡ length h.records.items
  all = t.taken ∙ ap (λ (v : SeatView). v.taken) (seen_at h j t.source b.source t.source_is b.source_is) ∙ b.none_left

  pub rests-over : All (Rests (graph_of h.opening) h.records.items) seats
  rests-over =
      let g = graph_of h.opening in
      let there = at_place (Rests g h.records.items) h.seats.items j t.source inv.rests t.source_is in
      subst (All (Rests g h.records.items)) (sym t.set)
      (All-set (Rests g h.records.items) h.seats.items i t.after
      (record {
        within = omega (arith, all);
        replayed = t.graph ∙ there.replayed ∙ ap (λ n. replay g (take n h.records.items)) (sym t.taken);
      }) inv.rests)

  pub consistent-over : All IsConsistent seats
  consistent-over =
      subst (All IsConsistent) (sym t.set)
      (All-set IsConsistent h.seats.items i t.after (subst (λ o. IfSome o (IsSessionOn t.after.graph)) (sym (t.session ∙ none_open)) tt) inv.consistent)

  pub counted-over : AreCounted h.records.items seats
  counted-over =
      subst (AreCounted h.records.items) (sym t.set)
      (counted-same (i + 1) i h.records.items h.seats.items t.seat t.after refl (slice_get_within h.seats.items i t.seat t.seat_is) (sym (get_or_from_slice_get h.seats.items i t.seat t.seat t.seat_is)) t.commits inv.counted)

  pub world-over : (record { opening = h.opening; cells = h.cells; history = h.records.items; seats = map seen_seat seats }) ≡ with_seat (world_of h) (i + 1) (caught_up (world_of h)) h.records.items
  world-over =
      let place : i ≡ (i + 1) - 1 = omega arith in
      let now : seen_seat t.after ≡ caught_up (world_of h) = λ k. record { taken = all k; session = ap (option_map (λ (o : OpenSession). o.kept.items)) (t.session ∙ none_open) k } in
      let seen : map seen_seat seats ≡ set (map seen_seat h.seats.items) ((i + 1) - 1) (caught_up (world_of h)) =
      ap (map seen_seat) t.set ∙ map-set seen_seat h.seats.items i t.after ∙ (λ k. set (map seen_seat h.seats.items) (place k) (now k)) in
      λ k. record { opening = h.opening; cells = h.cells; history = h.records.items; seats = seen k }
