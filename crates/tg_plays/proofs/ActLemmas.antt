-- What an act leaves as it was, and how it may end.
use Rattle.std.proofs.Common.{◌≡◌, inl, inr, ℕ, ◌-◌, ◌<◌, ◌≤◌, ◌==◌, ◌++◌, Bool, true, false, MatchBool, List, [], ◌∷◌, length, map, replicate, Option, None, Some, MatchOption, refl, sym, ap, subst, ◌∙◌, arith, true≢false}
use Rattle.std.specs.Prelude.{slice_get, if◌then◌else◌}
use Rattle.std.proofs.lemmas.Bool.{eqb-true}
use Rattle.std.proofs.lemmas.List.{length-set}
use Rattle.std.proofs.lemmas.Option.{slice_get_cases}
use Rattle.tg_graph.specs.declared.session.Act.{Act}
use Rattle.tg_graph.specs.declared.session.Act.TheVariants as act
use Rattle.tg_graph.specs.declared.session.Step.{Step}
use Rattle.tg_graph.specs.Graphs.{ProtectionGraph}
use Rattle.tg_hall.specs.declared.answers.Answered.{Answered}
use Rattle.tg_hall.specs.declared.records.Record.{Record}
use Rattle.tg_hall.specs.declared.events.Event.{Event}
use Rattle.tg_hall.specs.declared.events.Event.TheVariants.{Begin, Learn, Stage, Put, Abort}
use Rattle.tg_hall.specs.declared.events.HallReply.{HallReply}
use Rattle.tg_hall.specs.declared.events.HallReply.TheVariants as reply
use Rattle.tg_hall.specs.declared.events.HallFault.TheVariants.{NoSeat, AlreadyOpen, NotOpen, Changed, Crowded, JournalFull, Memory}
use Rattle.tg_hall.specs.Worlds.{World, SeatView, seat_of, seat_in, rests_on, with_seat, Opens, TakesIn, Learns, Says, Joins, Puts, Moves, Happens, Run}
use Rattle.tg_hall.specs.Acts.{is_learned, is_free, Repeats, OpensAfter, CatchesUp, Acts}
use Rattle.tg_plays.specs.RunParts.{MayBeTold}

-- ---- what stays
-- the opening graph and the number of seats stay
pub record Keeps (w v : World) : Type 0 where
  pub opening : v.opening ≡ w.opening
  pub seats : length v.seats ≡ length w.seats

keeps_both : (u v w : World) → Keeps u v → Keeps v w → Keeps u w
keeps_both u v w h k = record { opening = k.opening ∙ h.opening; seats = k.seats ∙ h.seats }

keeps_same : (v w : World) → v ≡ w → Keeps w v
keeps_same v w e = record { opening = ap (λ (w : World). w.opening) e; seats = ap (λ (w : World). length w.seats) e }

pub happens_keeps : (w v : World) (event : Event) (answer : HallReply) → Happens w event answer v → Keeps w v
happens_keeps w v event answer h = by (seat_of w (seat_in event)) h
  where
    by : (o : Option SeatView) → MatchOption o ((answer ≡ reply.Refused NoSeat) × (v ≡ w)) (λ s. (t : SeatView) × (later : List Record) × Moves (rests_on w s) w.cells w.history s event answer t later × (v ≡ with_seat w (seat_in event) t later)) → Keeps w v
    by None h = keeps_same v w h.1
    by (Some s) h = record { opening = ap (λ (w : World). w.opening) h.3; seats = ap (λ (w : World). length w.seats) h.3 ∙ length-set w.seats (seat_in event - 1) h.0 }

pub run_keeps : (w v : World) (events : List Event) (answers : List HallReply) → Run w events answers v → Keeps w v
run_keeps w v [] [] r = keeps_same v w r
run_keeps w v [] (a ∷ answers) r = absurd r
run_keeps w v (e ∷ events) [] r = absurd r
run_keeps w v (e ∷ events) (a ∷ answers) r = keeps_both w r.0 v (happens_keeps w r.0 e a r.1) (run_keeps r.0 v events answers r.2)

opens_keeps : (mid v : World) (k : ℕ) (told answer : HallReply) → OpensAfter mid k told answer v → Keeps mid v
opens_keeps mid v k reply.Nothing answer h = happens_keeps mid v (Begin k) answer h
opens_keeps mid v k (reply.Learned place) answer h = keeps_same v mid h.1
opens_keeps mid v k reply.Done answer h = keeps_same v mid h.1
opens_keeps mid v k (reply.Said said) answer h = keeps_same v mid h.1
opens_keeps mid v k (reply.Put place) answer h = keeps_same v mid h.1
opens_keeps mid v k (reply.Refused fault) answer h = keeps_same v mid h.1

begins_keeps : (w v : World) (k : ℕ) (answer : HallReply) (free : Bool) → MatchBool free (CatchesUp w k answer v) (Happens w (Begin k) answer v) → Keeps w v
begins_keeps w v k answer true h = keeps_both w h.mid v (run_keeps w h.mid _ _ h.learns.run) (opens_keeps h.mid v k h.told answer h.begins)
begins_keeps w v k answer false h = happens_keeps w v (Begin k) answer h

pub acts_keep : (w v : World) (k : ℕ) (done : Act) (answer : HallReply) → Acts w k done answer v → Keeps w v
acts_keep w v k act.Begin answer h = begins_keeps w v k answer (is_free w k) h
acts_keep w v k (act.Stage step) answer h = happens_keeps w v (Stage k step) answer h
acts_keep w v k act.Commit answer h = run_keeps w v _ _ h.run
acts_keep w v k act.Abort answer h = happens_keeps w v (Abort k) answer h

-- ---- how an act may end
-- how an event may be answered at a seat that is there
abbrev pub MayAnswer : Event → HallReply → Type 0
MayAnswer (Begin k) answer = MayBeTold answer
MayAnswer (Learn k) answer = is_learned answer ≡ false → (answer ≡ reply.Nothing → ⊥) → MayBeTold answer
MayAnswer (Stage k step) answer = MayBeTold answer
MayAnswer (Put k) answer = is_learned answer ≡ false → MayBeTold answer
MayAnswer (Abort k) answer = MayBeTold answer

told_as : (answer other : HallReply) → answer ≡ other → MayBeTold other → MayBeTold answer
told_as answer other e h = subst MayBeTold (sym e) h

opens_told : (s t : SeatView) (answer : HallReply) → Opens s answer t → MayBeTold answer
opens_told s t reply.Done h = tt
opens_told s t (reply.Refused Memory) h = tt
opens_told s t _ h = absurd h

begins_told : (s t : SeatView) (answer : HallReply) (o : Option (List Answered)) → MatchOption o (Opens s answer t) (λ _. (answer ≡ reply.Refused AlreadyOpen) × (t ≡ s)) → MayBeTold answer
begins_told s t answer None h = opens_told s t answer h
begins_told s t answer (Some steps) h = told_as answer (reply.Refused AlreadyOpen) h.0 tt

takes_told : (g : ProtectionGraph) (r : Record) (s t : SeatView) (answer : HallReply) → TakesIn g r s answer t → is_learned answer ≡ false → MayBeTold answer
takes_told g r s t (reply.Learned place) h e = absurd (true≢false e)
takes_told g r s t (reply.Refused (Changed place name)) h e = tt
takes_told g r s t (reply.Refused (Crowded place)) h e = tt
takes_told g r s t (reply.Refused Memory) h e = tt
takes_told g r s t _ h e = absurd h

learns_told : (g : ProtectionGraph) (s t : SeatView) (answer : HallReply) (next : Option Record) → Learns g next s answer t → is_learned answer ≡ false → (answer ≡ reply.Nothing → ⊥) → MayBeTold answer
learns_told g s t answer None h e n = absurd (n h.0)
learns_told g s t answer (Some r) h e n = takes_told g r s t answer h e

says_told : (g : ProtectionGraph) (steps : List Answered) (step : Step) (s t : SeatView) (answer : HallReply) → Says g steps step s answer t → MayBeTold answer
says_told g steps step s t (reply.Said said) h = tt
says_told g steps step s t (reply.Refused Memory) h = tt
says_told g steps step s t _ h = absurd h

stages_told : (g : ProtectionGraph) (step : Step) (s t : SeatView) (answer : HallReply) (o : Option (List Answered)) → MatchOption o ((answer ≡ reply.Refused NotOpen) × (t ≡ s)) (λ steps. Says g steps step s answer t) → MayBeTold answer
stages_told g step s t answer None h = told_as answer (reply.Refused NotOpen) h.0 tt
stages_told g step s t answer (Some steps) h = says_told g steps step s t answer h

aborts_told : (s t : SeatView) (later : SeatView) (answer : HallReply) (o : Option (List Answered)) → MatchOption o ((answer ≡ reply.Refused NotOpen) × (t ≡ s)) (λ _. (answer ≡ reply.Done) × (t ≡ later)) → MayBeTold answer
aborts_told s t later answer None h = told_as answer (reply.Refused NotOpen) h.0 tt
aborts_told s t later answer (Some steps) h = told_as answer reply.Done h.0 tt

joins_told : (cells k : ℕ) (history later : List Record) (steps : List Answered) (s t : SeatView) (answer : HallReply) → Joins cells k history steps s answer t later → MayBeTold answer
joins_told cells k history later steps s t (reply.Put place) h = tt
joins_told cells k history later steps s t (reply.Refused JournalFull) h = tt
joins_told cells k history later steps s t (reply.Refused Memory) h = tt
joins_told cells k history later steps s t _ h = absurd h

puts_told : (g : ProtectionGraph) (cells k : ℕ) (history later : List Record) (s t : SeatView) (answer : HallReply) → Puts g cells k history s answer t later → is_learned answer ≡ false → MayBeTold answer
puts_told g cells k history later s t answer h e = by s.session h
  where
    next : (steps : List Answered) (o : Option Record) → MatchOption o (Joins cells k history steps s answer t later) (λ r. TakesIn g r s answer t × (later ≡ history)) → MayBeTold answer
    next steps None h = joins_told cells k history later steps s t answer h
    next steps (Some r) h = takes_told g r s t answer h.0 e

    by : (o : Option (List Answered)) → MatchOption o ((answer ≡ reply.Refused NotOpen) × (t ≡ s) × (later ≡ history)) (λ steps. MatchOption (slice_get history s.taken) (Joins cells k history steps s answer t later) (λ r. TakesIn g r s answer t × (later ≡ history))) → MayBeTold answer
    by None h = told_as answer (reply.Refused NotOpen) h.0 tt
    by (Some steps) h = next steps (slice_get history s.taken) h

moves_told : (g : ProtectionGraph) (cells : ℕ) (history later : List Record) (s t : SeatView) (event : Event) (answer : HallReply) → Moves g cells history s event answer t later → MayAnswer event answer
moves_told g cells history later s t (Begin k) answer h = begins_told s t answer s.session h.0
moves_told g cells history later s t (Learn k) answer h = learns_told g s t answer (slice_get history s.taken) h.0
moves_told g cells history later s t (Stage k step) answer h = stages_told g step s t answer s.session h.0
moves_told g cells history later s t (Put k) answer h = puts_told g cells k history later s t answer h
moves_told g cells history later s t (Abort k) answer h = aborts_told s t _ answer s.session h.0

not_both : (o : Option SeatView) (s : SeatView) → o ≡ None → o ≡ Some s → ⊥
not_both None s e f = absurd cc
not_both (Some t) s e f = absurd cc

-- the seat of a number is there
is_there : (w : World) (k : ℕ) → 0 < k → k ≤ length w.seats → seat_of w k ≡ None → ⊥
is_there w k some within e = by (k == 0) refl e
  where
    by : (b : Bool) → (k == 0) ≡ b → (if b then None else slice_get w.seats (k - 1)) ≡ None → ⊥
    by true z e = let none : k ≡ 0 = eqb-true k 0 z in absurd (omega arith)
    by false z e =
        elim (slice_get_cases w.seats (k - 1)).1 [
          | inl p ↦ absurd (not_both (slice_get w.seats (k - 1)) p.0 e p.2)
          | inr p ↦ absurd (omega (arith, p.0))
        ]

happens_told : (w v : World) (event : Event) (answer : HallReply) → (seat_of w (seat_in event) ≡ None → ⊥) → Happens w event answer v → MayAnswer event answer
happens_told w v event answer there h = by (seat_of w (seat_in event)) refl h
  where
    by : (o : Option SeatView) → seat_of w (seat_in event) ≡ o → MatchOption o ((answer ≡ reply.Refused NoSeat) × (v ≡ w)) (λ s. (t : SeatView) × (later : List Record) × Moves (rests_on w s) w.cells w.history s event answer t later × (v ≡ with_seat w (seat_in event) t later)) → MayAnswer event answer
    by None e h = absurd (there e)
    by (Some s) e h = moves_told (rests_on w s) w.cells w.history h.1 s h.0 event answer h.2

-- an event again and again ends with the event
last_of : (w v : World) (event : Event) (answer : HallReply) (places : List ℕ) → Run w (replicate (length places) event ++ event ∷ []) (map reply.Learned places ++ answer ∷ []) v → (mid : World) × Keeps w mid × Happens mid event answer v
last_of w v event answer [] r = (w, keeps_same w w refl, subst (λ u. Happens w event answer u) (sym r.2) r.1)
last_of w v event answer (place ∷ places) r =
    let rest = last_of r.0 v event answer places r.2 in
    (rest.0, keeps_both w r.0 rest.0 (happens_keeps w r.0 event (reply.Learned place) r.1) rest.1, rest.2)

repeats_told : (w v : World) (event : Event) (answer : HallReply) → 0 < seat_in event → seat_in event ≤ length w.seats → Repeats w event answer v → MayAnswer event answer
repeats_told w v event answer some within h =
    let last = last_of w v event answer h.places h.run in
    happens_told last.0 v event answer (is_there last.0 (seat_in event) some (omega (arith, last.1.seats))) last.2

opens_after_told : (mid v : World) (k : ℕ) (told answer : HallReply) → 0 < k → k ≤ length mid.seats → ((told ≡ reply.Nothing → ⊥) → MayBeTold told) → OpensAfter mid k told answer v → MayBeTold answer
opens_after_told mid v k reply.Nothing answer some within may h = happens_told mid v (Begin k) answer (is_there mid k some within) h
opens_after_told mid v k (reply.Learned place) answer some within may h = told_as answer (reply.Learned place) h.0 (may (λ e. absurd cc))
opens_after_told mid v k reply.Done answer some within may h = told_as answer reply.Done h.0 tt
opens_after_told mid v k (reply.Said said) answer some within may h = told_as answer (reply.Said said) h.0 tt
opens_after_told mid v k (reply.Put place) answer some within may h = told_as answer (reply.Put place) h.0 tt
opens_after_told mid v k (reply.Refused fault) answer some within may h = told_as answer (reply.Refused fault) h.0 (may (λ e. absurd cc))

begin_told : (w v : World) (k : ℕ) (answer : HallReply) (free : Bool) → 0 < k → k ≤ length w.seats → MatchBool free (CatchesUp w k answer v) (Happens w (Begin k) answer v) → MayBeTold answer
begin_told w v k answer true some within h =
    let mid = run_keeps w h.mid _ _ h.learns.run in
    opens_after_told h.mid v k h.told answer some (omega (arith, mid.seats)) (λ n. repeats_told w h.mid (Learn k) h.told some within h.learns h.learns.last n) h.begins
begin_told w v k answer false some within h = happens_told w v (Begin k) answer (is_there w k some within) h

-- an act of a seat that is there
pub acts_told : (w v : World) (k : ℕ) (done : Act) (answer : HallReply) → 0 < k → k ≤ length w.seats → Acts w k done answer v → MayBeTold answer
acts_told w v k act.Begin answer some within h = begin_told w v k answer (is_free w k) some within h
acts_told w v k (act.Stage step) answer some within h = happens_told w v (Stage k step) answer (is_there w k some within) h
acts_told w v k act.Commit answer some within h = repeats_told w v (Put k) answer some within h h.last
acts_told w v k act.Abort answer some within h = happens_told w v (Abort k) answer (is_there w k some within) h
