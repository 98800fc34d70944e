-- Records that are left, taken in one after another.
use Rattle.std.proofs.Common.{◌≡◌, ℕ, zero, suc, ◌+◌, ◌-◌, ◌<◌, inl, inr, ◌==◌, Bool, true, false, List, [], ◌∷◌, length, set, Option, None, Some, is_some, refl, sym, ap, subst, ◌∙◌, arith, true≢false}
use Rattle.std.specs.Prelude.{slice_get, is_none, if◌then◌else◌}
use Rattle.std.specs.Option.{option_map_or}
use Rattle.std.proofs.lemmas.List.{set-set, set-get_or}
use Rattle.std.proofs.lemmas.Option.{slice_get_past, slice_get_cases, get_or_from_slice_get}
use Rattle.tg_hall.specs.declared.answers.Answered.{Answered}
use Rattle.tg_hall.specs.declared.records.Record.{Record}
use Rattle.tg_hall.specs.declared.events.Event.TheVariants.{Learn}
use Rattle.tg_hall.specs.declared.events.HallReply.{HallReply}
use Rattle.tg_hall.specs.declared.events.HallReply.TheVariants as reply
use Rattle.tg_hall.specs.declared.events.HallFault.TheVariants.{Memory}
use Rattle.tg_hall.specs.Touches.{IsClear}
use Rattle.tg_hall.specs.Worlds.{World, SeatView, seat_of, rests_on, with_seat, one_further, Learns}
use Rattle.tg_hall.specs.Acts.{is_free, caught_up, IsBehind, Repeats}
use Rattle.tg_hall.proofs.HallLemmas.{happens-some, seat_of-at}
use Rattle.tg_hall.proofs.RunLemmas.{seat_of-with}

-- the next record, which is there
next_record : (history : List Record) (i : ℕ) → i < length history → (r : Record) × (slice_get history i ≡ Some r)
next_record history i lt =
    elim (slice_get_cases history i).1 [
      | inl p ↦ (p.0, p.2)
      | inr p ↦ absurd (omega (arith, lt, p.0))
    ]

nothing_left : (w v : World) (k : ℕ) (s : SeatView) → seat_of w k ≡ Some s → s.session ≡ None → s.taken ≡ length w.history → v ≡ with_seat w k (caught_up w) w.history → Repeats w (Learn k) reply.Nothing v
nothing_left w v k s e free all is =
    let past = slice_get_past w.history s.taken (omega (arith, all)) in
    let same : caught_up w ≡ s = λ i. record { taken = sym all i; session = sym free i } in
    let now = is ∙ ap (λ t. with_seat w k t w.history) same in
    record {
      places = [];
      run = (v, happens-some w v (Learn k) reply.Nothing s s w.history e (subst (λ o. Learns (rests_on w s) o s reply.Nothing s) (sym past) (refl, refl), refl) now, refl);
      last = refl;
    }

-- one record is taken in, and then the others
one_learnt : (w v : World) (k : ℕ) (s : SeatView) (r : Record) (answer : HallReply) → seat_of w k ≡ Some s → s.session ≡ None → slice_get w.history s.taken ≡ Some r → Repeats (with_seat w k (one_further s) w.history) (Learn k) answer v → Repeats w (Learn k) answer v
one_learnt w v k s r answer e free is rest =
    let next = with_seat w k (one_further s) w.history in
    let clear : IsClear (rests_on w s) r.steps s.session = subst (IsClear (rests_on w s) r.steps) (sym free) tt in
    let learns = subst (λ o. Learns (rests_on w s) o s (reply.Learned s.taken) (one_further s)) (sym is) (refl, clear, refl) in
    record {
      places = s.taken ∷ rest.places;
      run = (next, happens-some w next (Learn k) (reply.Learned s.taken) s (one_further s) w.history e (learns, refl) refl, rest.run);
      last = rest.last;
    }

-- so many records are left, and all are taken in
all_learnt : (n : ℕ) (w v : World) (k : ℕ) (s : SeatView) → seat_of w k ≡ Some s → s.session ≡ None → s.taken + n ≡ length w.history → v ≡ with_seat w k (caught_up w) w.history → Repeats w (Learn k) reply.Nothing v
all_learnt zero w v k s e free all is = nothing_left w v k s e free (omega (arith, all)) is
all_learnt (suc n) w v k s e free all is =
    let next = with_seat w k (one_further s) w.history in
    let r = next_record w.history s.taken (omega (arith, all)) in
    let now : v ≡ with_seat next k (caught_up next) next.history =
    is ∙ (λ i. record { opening = w.opening; cells = w.cells; history = w.history; seats = sym (set-set w.seats (k - 1) (one_further s) (caught_up w)) i }) in
    one_learnt w v k s r.0 reply.Nothing e free r.1
    (all_learnt n next v k (one_further s) (seat_of-with w k s (one_further s) w.history e) free (omega (arith, all)) now)

-- a seat that is written as it was leaves the world
same_world : (w : World) (k : ℕ) (s : SeatView) → seat_of w k ≡ Some s → with_seat w k s w.history ≡ w
same_world w k s e = by (k == 0) e
  where
    by : (b : Bool) → (if b then None else slice_get w.seats (k - 1)) ≡ Some s → with_seat w k s w.history ≡ w
    by true e = absurd (true≢false (ap is_some (sym e)))
    by false e =
        let here = get_or_from_slice_get w.seats (k - 1) s s e in
        λ i. record { opening = w.opening; cells = w.cells; history = w.history; seats = (ap (λ x. set w.seats (k - 1) x) (sym here) ∙ set-get_or w.seats (k - 1) s) i }

-- ---- a seat without an open session
no_session : (o : Option (List Answered)) → is_none o ≡ true → o ≡ None
no_session None e = refl
no_session (Some steps) e = absurd (true≢false (sym e))

pub free_seat : (w : World) (k : ℕ) (s : SeatView) → seat_of w k ≡ Some s → is_free w k ≡ true → s.session ≡ None
free_seat w k s e free = no_session s.session (sym (ap (λ o. option_map_or (λ (s : SeatView). is_none s.session) o false) e) ∙ free)

-- ---- a free seat that is behind
module _ (w : World) (k index other : ℕ) (b : IsBehind w k index other) where
  pub seat_behind : seat_of w k ≡ Some b.seat
  seat_behind = seat_of-at w k index b.number ∙ b.seat_is

  pub learns_all : (v : World) → is_free w k ≡ true → v ≡ with_seat w k (caught_up w) w.history → Repeats w (Learn k) reply.Nothing v
  learns_all v free is = all_learnt (length w.history - b.seat.taken) w v k b.seat seat_behind (free_seat w k b.seat seat_behind free) (let lt = b.some_left in omega (arith, lt)) is

  -- one is left, and there is no memory
  pub learns_none : (v : World) → is_free w k ≡ true → v ≡ w → Repeats w (Learn k) (reply.Refused Memory) v
  learns_none v free is =
      let s = b.seat in
      let r = next_record w.history s.taken b.some_left in
      let clear : IsClear (rests_on w s) r.0.steps s.session = subst (IsClear (rests_on w s) r.0.steps) (sym (free_seat w k s seat_behind free)) tt in
      let learns = subst (λ o. Learns (rests_on w s) o s (reply.Refused Memory) s) (sym r.1) (clear, refl) in
      record { places = []; run = (v, happens-some w v (Learn k) (reply.Refused Memory) s s w.history seat_behind (learns, refl) (is ∙ sym (same_world w k s seat_behind)), refl); last = refl }
