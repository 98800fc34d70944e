-- Seats whose sessions give up what they know, and events that are refused memory: the hall is as it was.
use Rattle.std.proofs.Common.{◌≡◌, ℕ, ◌+◌, ◌-◌, ◌==◌, Bool, true, false, List, [], ◌∷◌, length, set, get_or, map, All, Option, None, Some, IfSome, IsSome, MatchOption, is_some, refl, sym, ap, subst, ◌∙◌, true≢false}
use Rattle.std.specs.Prelude.{slice_get, slice_set, if◌then◌else◌}
use Rattle.std.specs.Option.{option_map}
use Rattle.std.proofs.lemmas.List.{set-get_or}
use Rattle.std.proofs.lemmas.List.Elements.{All-map, All-weaker}
use Rattle.std.proofs.lemmas.Option.{none-some, same_Some, slice_get-map, get_or_from_slice_get}
use Rattle.tg_graph.specs.Graphs.{ProtectionGraph}
use Rattle.tg_hall.specs.declared.answers.Answered.{Answered}
use Rattle.tg_hall.specs.declared.records.Record.{Record}
use Rattle.tg_hall.specs.declared.seats.OpenSession.{OpenSession}
use Rattle.tg_hall.specs.declared.seats.SeatState.{SeatState}
use Rattle.tg_hall.specs.declared.events.Event.{Event}
use Rattle.tg_hall.specs.declared.events.Event.TheVariants.{Begin, Learn, Stage, Put, Abort}
use Rattle.tg_hall.specs.declared.events.HallReply.{HallReply}
use Rattle.tg_hall.specs.declared.events.HallReply.TheVariants as reply
use Rattle.tg_hall.specs.declared.events.HallFault.TheVariants.{NoSeat, AlreadyOpen, NotOpen, Changed, Crowded, JournalFull, Memory}
use Rattle.tg_hall.specs.Worlds.{World, SeatView, seat_of, seat_in, rests_on, with_seat, is_short_of_memory, Moves, Happens, Begins, Opens, Learns, TakesIn, Stages, Says, Aborts, Puts, Joins}
use Rattle.tg_hall.specs.Seats.{seen_seat, IsSessionOn, IsConsistent, Rests, AreCounted, unknowing, given_up, KnowsNothing}
use Rattle.tg_hall.specs.Histories.{count_of}
use Rattle.tg_hall.specs.Knowing.{forgotten}
use Rattle.tg_hall.proofs.SeatLemmas.{unknowing-on, forgotten-twice}

-- ---- a seat whose session gives up what it knows
pub given_up-seen : (s : SeatState) → seen_seat (given_up s) ≡ seen_seat s
given_up-seen s = λ k. record { taken = s.taken; session = by s.session k }
  where
    by : (o : Option OpenSession) → option_map (λ (o : OpenSession). o.kept.items) (option_map unknowing o) ≡ option_map (λ (o : OpenSession). o.kept.items) o
    by None = refl
    by (Some o) = refl

pub given_up-consistent : (s : SeatState) → IsConsistent s → IsConsistent (given_up s)
given_up-consistent s = by s.session
  where
    by : (o : Option OpenSession) → IfSome o (IsSessionOn s.graph) → IfSome (option_map unknowing o) (IsSessionOn s.graph)
    by None on = tt
    by (Some o) on = unknowing-on s.graph o on

pub given_up-unknown : (s : SeatState) → KnowsNothing (given_up s)
given_up-unknown s = by s.session
  where
    by : (o : Option OpenSession) → IfSome (option_map unknowing o) (λ (o : OpenSession). o.known ≡ forgotten o.known)
    by None = tt
    by (Some o) = forgotten-twice o.known

pub given_up-open : (s : SeatState) → IsSome s.session → IsSome (given_up s).session
given_up-open s = by s.session
  where
    by : (o : Option OpenSession) → IsSome o → IsSome (option_map unknowing o)
    by None is = is
    by (Some o) is = refl

pub given_up-rests : (s : SeatState) (g : ProtectionGraph) (history : List Record) → Rests g history s → Rests g history (given_up s)
given_up-rests s g history r = record { within = r.within; replayed = r.replayed }

-- ---- seats that do
pub seen-given_up : (seats : List SeatState) → map seen_seat (map given_up seats) ≡ map seen_seat seats
seen-given_up [] = refl
seen-given_up (s ∷ rest) = λ k. given_up-seen s k ∷ seen-given_up rest k

pub rests-given_up : (g : ProtectionGraph) (history : List Record) (seats : List SeatState) → All (Rests g history) seats → All (Rests g history) (map given_up seats)
rests-given_up g history seats h =
    All-map (Rests g history) given_up seats
    (All-weaker (Rests g history) (λ s. Rests g history (given_up s)) (λ s r. given_up-rests s g history r) seats h)

pub consistent-given_up : (seats : List SeatState) → All IsConsistent seats → All IsConsistent (map given_up seats)
consistent-given_up seats h =
    All-map IsConsistent given_up seats (All-weaker IsConsistent (λ s. IsConsistent (given_up s)) given_up-consistent seats h)

pub counted-given_up : (history : List Record) (seats : List SeatState) → AreCounted history seats → AreCounted history (map given_up seats)
counted-given_up history seats h i s is = by (slice_get seats i) refl (sym (slice_get-map given_up seats i) ∙ is)
  where
    by : (o : Option SeatState) → slice_get seats i ≡ o → option_map given_up o ≡ Some s → s.commits ≡ count_of (i + 1) history
    by None e f = absurd (none-some s f)
    by (Some t) e f = ap (λ (x : SeatState). x.commits) (sym (same_Some (given_up t) s f)) ∙ h i t e

-- ---- an event that is refused memory
short-memory : (answer : HallReply) → is_short_of_memory answer ≡ true → answer ≡ reply.Refused Memory
short-memory (reply.Refused Memory) e = refl
short-memory (reply.Refused NoSeat) e = absurd (true≢false (sym e))
short-memory (reply.Refused AlreadyOpen) e = absurd (true≢false (sym e))
short-memory (reply.Refused NotOpen) e = absurd (true≢false (sym e))
short-memory (reply.Refused (Changed place name)) e = absurd (true≢false (sym e))
short-memory (reply.Refused (Crowded place)) e = absurd (true≢false (sym e))
short-memory (reply.Refused JournalFull) e = absurd (true≢false (sym e))
short-memory reply.Done e = absurd (true≢false (sym e))
short-memory (reply.Learned place) e = absurd (true≢false (sym e))
short-memory reply.Nothing e = absurd (true≢false (sym e))
short-memory (reply.Said answer) e = absurd (true≢false (sym e))
short-memory (reply.Put place) e = absurd (true≢false (sym e))

module _ (g : ProtectionGraph) (cells : ℕ) (history : List Record) (s t : SeatView) (later : List Record) where
  learns-short : (next : Option Record) → Learns g next s (reply.Refused Memory) t → t ≡ s
  learns-short None m = m.1
  learns-short (Some r) m = m.1

  begins-short : (o : Option (List Answered)) → MatchOption o (t ≡ s) (λ _. (reply.Refused Memory ≡ reply.Refused AlreadyOpen) × (t ≡ s)) → t ≡ s
  begins-short None m = m
  begins-short (Some steps) m = m.1

  stages-short : (o : Option (List Answered)) → MatchOption o ((reply.Refused Memory ≡ reply.Refused NotOpen) × (t ≡ s)) (λ _. t ≡ s) → t ≡ s
  stages-short None m = m.1
  stages-short (Some steps) m = m

  aborts-short : (u : SeatView) (o : Option (List Answered)) → MatchOption o ((reply.Refused Memory ≡ reply.Refused NotOpen) × (t ≡ s)) (λ _. (reply.Refused Memory ≡ reply.Done) × (t ≡ u)) → t ≡ s
  aborts-short u None m = m.1
  aborts-short u (Some steps) m = absurd (true≢false (ap is_short_of_memory m.0))

  puts-short : (k : ℕ) (o : Option (List Answered)) → MatchOption o ((reply.Refused Memory ≡ reply.Refused NotOpen) × (t ≡ s) × (later ≡ history)) (λ steps. MatchOption (slice_get history s.taken) (Joins cells k history steps s (reply.Refused Memory) t later) (λ r. TakesIn g r s (reply.Refused Memory) t × (later ≡ history))) → (t ≡ s) × (later ≡ history)
  puts-short k None m = (m.1, m.2)
  puts-short k (Some steps) m = by (slice_get history s.taken) m
    where
      by : (o : Option Record) → MatchOption o (Joins cells k history steps s (reply.Refused Memory) t later) (λ r. TakesIn g r s (reply.Refused Memory) t × (later ≡ history)) → (t ≡ s) × (later ≡ history)
      by None m = (m.1, m.2)
      by (Some r) m = (m.0.1, m.1)

  moves-short : (event : Event) → Moves g cells history s event (reply.Refused Memory) t later → (t ≡ s) × (later ≡ history)
  moves-short (Begin k) m = (begins-short s.session m.0, m.1)
  moves-short (Learn k) m = (learns-short (slice_get history s.taken) m.0, m.1)
  moves-short (Stage k step) m = (stages-short s.session m.0, m.1)
  moves-short (Put k) m = puts-short k s.session m
  moves-short (Abort k) m = (aborts-short _ s.session m.0, m.1)

-- a seat that is written as it was read
with_seat-same : (w : World) (k : ℕ) (s : SeatView) → seat_of w k ≡ Some s → with_seat w k s w.history ≡ w
with_seat-same w k s e = λ i. record { opening = w.opening; cells = w.cells; history = w.history; seats = by (k == 0) e i }
  where
    by : (b : Bool) → (if b then None else slice_get w.seats (k - 1)) ≡ Some s → slice_set w.seats (k - 1) s ≡ w.seats
    by true e = absurd (none-some s e)
    by false e = ap (set w.seats (k - 1)) (sym (get_or_from_slice_get w.seats (k - 1) s s e)) ∙ set-get_or w.seats (k - 1) s

-- the world is as it was
pub happens-short : (w v : World) (event : Event) (answer : HallReply) → is_short_of_memory answer ≡ true → Happens w event answer v → v ≡ w
happens-short w v event answer short h = by (seat_of w (seat_in event)) refl h
  where
    by : (o : Option SeatView) → seat_of w (seat_in event) ≡ o → MatchOption o ((answer ≡ reply.Refused NoSeat) × (v ≡ w)) (λ s. (t : SeatView) × (later : List Record) × Moves (rests_on w s) w.cells w.history s event answer t later × (v ≡ with_seat w (seat_in event) t later)) → v ≡ w
    by None e h = h.1
    by (Some s) e h =
        let same = moves-short (rests_on w s) w.cells w.history s h.0 h.1 event (subst (λ a. Moves (rests_on w s) w.cells w.history s event a h.0 h.1) (short-memory answer short) h.2) in
        h.3 ∙ (λ i. with_seat w (seat_in event) (same.0 i) (same.1 i)) ∙ with_seat-same w (seat_in event) s e
