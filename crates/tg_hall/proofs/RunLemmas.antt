-- Runs of a hall's world.
use Rattle.std.proofs.Common.{◌≡◌, ℕ, ◌+◌, ◌-◌, ◌<◌, ◌≤◌, ◌++◌, ◌==◌, Bool, true, false, List, [], ◌∷◌, length, take, get_or, map, replicate, Option, None, Some, MatchOption, is_some, refl, sym, ap, subst, ◌∙◌, arith, true≢false, get_or-set_same}
use Rattle.std.specs.Prelude.{slice_get, slice_set, if◌then◌else◌}
use Rattle.std.specs.List.{AllZip}
use Rattle.std.specs.Option.{option_map_or}
use Rattle.std.proofs.lemmas.List.{take_more, length-append, length-set, map-append}
use Rattle.std.proofs.lemmas.Option.{slice_get_within, slice_get_read}
use Rattle.tg_graph.specs.Graphs.{ProtectionGraph}
use Rattle.tg_hall.specs.declared.answers.Answered.{Answered}
use Rattle.tg_hall.specs.declared.records.Record.{Record}
use Rattle.tg_hall.specs.declared.events.Event.{Event}
use Rattle.tg_hall.specs.declared.events.Event.TheVariants.{Begin, Learn, Stage, Put, Abort}
use Rattle.tg_hall.specs.declared.events.HallReply.{HallReply}
use Rattle.tg_hall.specs.declared.events.HallReply.TheVariants as reply
use Rattle.tg_hall.specs.declared.events.HallFault.TheVariants.{NoSeat, NotOpen, Changed, Crowded, JournalFull, Memory}
use Rattle.tg_hall.specs.Worlds.{World, SeatView, seat_of, seat_in, rests_on, with_seat, Moves, Happens, Run, IsSpared, Learns, TakesIn, Puts, Joins}
use Rattle.tg_hall.specs.Acts.{is_learned, MayLearn, Repeats}
use Rattle.tg_hall.proofs.HallLemmas.{replicate-push}

-- a run goes on by one event
pub run-push : (w mid v : World) (events : List Event) (answers : List HallReply) (event : Event) (answer : HallReply) → Run w events answers mid → Happens mid event answer v → Run w (events ++ event ∷ []) (answers ++ answer ∷ []) v
run-push w mid v [] [] event answer r h = (v, subst (λ w. Happens w event answer v) r h, refl)
run-push w mid v [] (a ∷ rest) event answer r h = absurd r
run-push w mid v (e ∷ es) [] event answer r h = absurd r
run-push w mid v (e ∷ es) (a ∷ rest) event answer r h = (r.0, r.1, run-push r.0 mid v es rest event answer r.2 h)

pub run-more : (w mid v : World) (events : List Event) (answers : List HallReply) (i : ℕ) (event : Event) (answer : HallReply) → i < length events → event ≡ get_or events i event → Run w (take i events) answers mid → Happens mid event answer v → Run w (take (i + 1) events) (answers ++ answer ∷ []) v
run-more w mid v events answers i event answer lt is r h =
    subst (λ es. Run w es (answers ++ answer ∷ []) v) (sym (take_more events i event lt ∙ ap (λ e. take i events ++ e ∷ []) (sym is)))
    (run-push w mid v (take i events) answers event answer r h)

-- ---- events that take no memory
spared-push : (events : List Event) (answers : List HallReply) (event : Event) (answer : HallReply) → AllZip IsSpared events answers → IsSpared event answer → AllZip IsSpared (events ++ event ∷ []) (answers ++ answer ∷ [])
spared-push [] [] event answer h r = (r, tt)
spared-push [] (a ∷ answers) event answer h r = absurd h
spared-push (e ∷ events) [] event answer h r = absurd h
spared-push (e ∷ events) (a ∷ answers) event answer h r = (h.0, spared-push events answers event answer h.1 r)

pub spared-more : (events : List Event) (answers : List HallReply) (i : ℕ) (event : Event) (answer : HallReply) → i < length events → event ≡ get_or events i event → AllZip IsSpared (take i events) answers → IsSpared event answer → AllZip IsSpared (take (i + 1) events) (answers ++ answer ∷ [])
spared-more events answers i event answer lt is h r =
    subst (λ es. AllZip IsSpared es (answers ++ answer ∷ [])) (sym (take_more events i event lt ∙ ap (λ e. take i events ++ e ∷ []) (sym is)))
    (spared-push (take i events) answers event answer h r)

-- ---- what is left for a seat
-- how many records the seat has not taken in
abbrev pub left_for : World → ℕ → ℕ
left_for w k = option_map_or (λ s. length w.history - s.taken) (seat_of w k) 0

abbrev pub flag : HallReply → ℕ
flag answer = if is_learned answer then 1 else 0

module _ (g : ProtectionGraph) (history : List Record) (s t : SeatView) where
  takes-left : (r : Record) (answer : HallReply) → slice_get history s.taken ≡ Some r → TakesIn g r s answer t → (length history - t.taken) + flag answer ≤ length history - s.taken
  takes-left r (reply.Learned place) e m =
      let lt = slice_get_within history s.taken r e in
      let n : t.taken ≡ s.taken + 1 = ap (λ (s : SeatView). s.taken) m.2 in omega (arith, lt, n)
  takes-left r (reply.Refused (Changed place name)) e m = let n : t.taken ≡ s.taken = ap (λ (s : SeatView). s.taken) m.2 in omega (arith, n)
  takes-left r (reply.Refused (Crowded place)) e m = let n : t.taken ≡ s.taken = ap (λ (s : SeatView). s.taken) m.2 in omega (arith, n)
  takes-left r (reply.Refused Memory) e m = let n : t.taken ≡ s.taken = ap (λ (s : SeatView). s.taken) m.1 in omega (arith, n)
  takes-left r _ e m = absurd m

  same-left : (answer other : HallReply) → answer ≡ other → flag other ≡ 0 → t ≡ s → (length history - t.taken) + flag answer ≤ length history - s.taken
  same-left answer other e f is = let n : t.taken ≡ s.taken = ap (λ (s : SeatView). s.taken) is in let m : flag answer ≡ 0 = ap flag e ∙ f in omega (arith, n, m)

  learns-left : (answer : HallReply) → Learns g (slice_get history s.taken) s answer t → (length history - t.taken) + flag answer ≤ length history - s.taken
  learns-left answer m = by (slice_get history s.taken) refl m
    where
      by : (o : Option Record) → slice_get history s.taken ≡ o → Learns g o s answer t → (length history - t.taken) + flag answer ≤ length history - s.taken
      by None e m = same-left answer reply.Nothing m.0 refl m.1
      by (Some r) e m = takes-left r answer e m

  joins-left : (cells k : ℕ) (steps : List Answered) (answer : HallReply) (later : List Record) → Joins cells k history steps s answer t later → (length later - t.taken) + flag answer ≤ length history - s.taken
  joins-left cells k steps (reply.Put place) later m =
      let n : t.taken ≡ s.taken + 1 = ap (λ (s : SeatView). s.taken) m.2 in
      let l : length later ≡ length history + 1 = ap length m.3 ∙ length-append history _ in
      omega (arith, n, l)
  joins-left cells k steps (reply.Refused JournalFull) later m = let n : t.taken ≡ s.taken = ap (λ (s : SeatView). s.taken) m.1 in omega (arith, n, ap length m.2)
  joins-left cells k steps (reply.Refused Memory) later m = let n : t.taken ≡ s.taken = ap (λ (s : SeatView). s.taken) m.1 in omega (arith, n, ap length m.2)
  joins-left cells k steps _ later m = absurd m

  puts-left : (cells k : ℕ) (answer : HallReply) (later : List Record) → Puts g cells k history s answer t later → (length later - t.taken) + flag answer ≤ length history - s.taken
  puts-left cells k answer later m = by s.session m
    where
      next : (steps : List Answered) (o : Option Record) → slice_get history s.taken ≡ o → MatchOption o (Joins cells k history steps s answer t later) (λ r. TakesIn g r s answer t × (later ≡ history)) → (length later - t.taken) + flag answer ≤ length history - s.taken
      next steps None e m = joins-left cells k steps answer later m
      next steps (Some r) e m = let le = takes-left r answer e m.0 in omega (arith, le, ap length m.1)

      by : (o : Option (List Answered)) → MatchOption o ((answer ≡ reply.Refused NotOpen) × (t ≡ s) × (later ≡ history)) (λ steps. MatchOption (slice_get history s.taken) (Joins cells k history steps s answer t later) (λ r. TakesIn g r s answer t × (later ≡ history))) → (length later - t.taken) + flag answer ≤ length history - s.taken
      by None m = let le = same-left answer (reply.Refused NotOpen) m.0 refl m.1 in omega (arith, le, ap length m.2)
      by (Some steps) m = next steps (slice_get history s.taken) refl m

moves-left : (g : ProtectionGraph) (cells : ℕ) (history : List Record) (s t : SeatView) (event : Event) (answer : HallReply) (later : List Record) → MayLearn event → Moves g cells history s event answer t later → (length later - t.taken) + flag answer ≤ length history - s.taken
moves-left g cells history s t (Learn k) answer later may m = let le = learns-left g history s t answer m.0 in omega (arith, le, ap length m.1)
moves-left g cells history s t (Put k) answer later may m = puts-left g history s t cells k answer later m
moves-left g cells history s t (Begin k) answer later may m = absurd may
moves-left g cells history s t (Stage k step) answer later may m = absurd may
moves-left g cells history s t (Abort k) answer later may m = absurd may

-- the seat that was written is the one that is read
pub seat_of-with : (w : World) (k : ℕ) (s t : SeatView) (later : List Record) → seat_of w k ≡ Some s → seat_of (with_seat w k t later) k ≡ Some t
seat_of-with w k s t later e = by (k == 0) e
  where
    by : (b : Bool) → (if b then None else slice_get w.seats (k - 1)) ≡ Some s → (if b then None else slice_get (slice_set w.seats (k - 1) t) (k - 1)) ≡ Some t
    by true e = absurd (true≢false (ap is_some (sym e)))
    by false e =
        let lt = slice_get_within w.seats (k - 1) s e in
        let n = length-set w.seats (k - 1) t in
        slice_get_read (slice_set w.seats (k - 1) t) (length (slice_set w.seats (k - 1) t)) (k - 1) t refl (omega (arith, lt, n)) (sym (get_or-set_same w.seats (k - 1) t t lt))

-- an event that takes in a record leaves one fewer
pub left-falls : (w v : World) (event : Event) (answer : HallReply) → MayLearn event → Happens w event answer v → left_for v (seat_in event) + flag answer ≤ left_for w (seat_in event)
left-falls w v event answer may h = by (seat_of w (seat_in event)) refl h
  where
    by : (o : Option SeatView) → seat_of w (seat_in event) ≡ o → MatchOption o ((answer ≡ reply.Refused NoSeat) × (v ≡ w)) (λ s. (t : SeatView) × (later : List Record) × Moves (rests_on w s) w.cells w.history s event answer t later × (v ≡ with_seat w (seat_in event) t later)) → left_for v (seat_in event) + flag answer ≤ left_for w (seat_in event)
    by None e h =
        let same : left_for v (seat_in event) ≡ left_for w (seat_in event) = ap (λ x. left_for x (seat_in event)) h.1 in
        let none : flag answer ≡ 0 = ap flag h.0 in
        omega (arith, same, none)
    by (Some s) e h =
        let before : left_for w (seat_in event) ≡ length w.history - s.taken = ap (λ o. option_map_or (λ (s : SeatView). length w.history - s.taken) o 0) e in
        let there : left_for v (seat_in event) ≡ left_for (with_seat w (seat_in event) h.0 h.1) (seat_in event) = ap (λ x. left_for x (seat_in event)) h.3 in
        let now : left_for (with_seat w (seat_in event) h.0 h.1) (seat_in event) ≡ length h.1 - h.0.taken = ap (λ o. option_map_or (λ (s : SeatView). length h.1 - s.taken) o 0) (seat_of-with w (seat_in event) s h.0 h.1 e) in
        let falls = moves-left (rests_on w s) w.cells w.history s h.0 event answer h.1 may h.2 in
        omega (arith, before, there, now, falls)

-- ---- an event again and again
pub record Repeated (w : World) (event : Event) (answer : HallReply) (v : World) : Type 0 where
  pub places : List ℕ
  pub mid : World
  pub run : Run w (replicate (length places) event) (map reply.Learned places) mid
  pub last : Happens mid event answer v

pub repeated-start : (w v : World) (event : Event) (answer : HallReply) → Happens w event answer v → Repeated w event answer v
repeated-start w v event answer h = record { places = []; mid = w; run = refl; last = h }

learned_place : (answer : HallReply) → is_learned answer ≡ true → (place : ℕ) × (answer ≡ reply.Learned place)
learned_place (reply.Learned place) e = (place, refl)
learned_place reply.Done e = absurd (true≢false (sym e))
learned_place reply.Nothing e = absurd (true≢false (sym e))
learned_place (reply.Said answer) e = absurd (true≢false (sym e))
learned_place (reply.Put place) e = absurd (true≢false (sym e))
learned_place (reply.Refused fault) e = absurd (true≢false (sym e))

pub repeated-more : (w u v : World) (event : Event) (answer later : HallReply) → Repeated w event answer u → is_learned answer ≡ true → Happens u event later v → Repeated w event later v
repeated-more w u v event answer later r t h =
    let place = learned_place answer t in
    let longer : length (r.places ++ place.0 ∷ []) ≡ length r.places + 1 = length-append r.places (place.0 ∷ []) in
    let events : replicate (length r.places) event ++ event ∷ [] ≡ replicate (length (r.places ++ place.0 ∷ [])) event = replicate-push (length r.places) event ∙ ap (λ n. replicate n event) (sym longer) in
    let answers : map reply.Learned r.places ++ answer ∷ [] ≡ map reply.Learned (r.places ++ place.0 ∷ []) = ap (λ a. map reply.Learned r.places ++ a ∷ []) place.1 ∙ sym (map-append reply.Learned r.places (place.0 ∷ [])) in
    record {
      places = r.places ++ place.0 ∷ [];
      mid = u;
      run = subst (λ es. Run w es (map reply.Learned (r.places ++ place.0 ∷ [])) u) events
          (subst (λ as'. Run w (replicate (length r.places) event ++ event ∷ []) as' u) answers (run-push w r.mid u (replicate (length r.places) event) (map reply.Learned r.places) event answer r.run r.last));
      last = h;
    }

pub repeated-end : (w v : World) (event : Event) (answer : HallReply) → Repeated w event answer v → is_learned answer ≡ false → Repeats w event answer v
repeated-end w v event answer r e = record {
  places = r.places;
  run = run-push w r.mid v (replicate (length r.places) event) (map reply.Learned r.places) event answer r.run r.last;
  last = e;
}
