-- What an event keeps of a hall.
use Rattle.std.proofs.Common.{◌≡◌, ◌≢◌, ℕ, zero, suc, ◌+◌, ◌-◌, ◌<◌, ◌≤◌, ◌⊎◌, ◌++◌, ◌==◌, true, false, List, [], ◌∷◌, length, take, get_or, set, map, replicate, Option, None, Some, All, IfSome, MatchOption, is_some, refl, sym, ap, subst, ◌∙◌, arith, inl, inr, add-one, true≢false}
use Rattle.std.specs.Prelude.{slice_get, if◌then◌else◌}
use Rattle.std.specs.Option.{option_map}
use Rattle.std.proofs.lemmas.Bool.{cases_lt}
use Rattle.std.proofs.lemmas.Bool.Decides.{nat_tests}
use Rattle.std.proofs.lemmas.List.{length-append, take-append-le, take_all, map-set, get_or_push, get_or_append_left, length-map, length-set, get_or-set_same, get_or-set_other}
use Rattle.std.proofs.lemmas.List.Elements.{All-map, All-weaker}
use Rattle.std.proofs.lemmas.Option.{slice_get-map, slice_get_within, slice_get_past, slice_get-get_or, slice_get_read, get_or_from_slice_get}
use Rattle.tg_graph.specs.Graphs.{ProtectionGraph}
use Rattle.tg_graph.specs.GraphOf.{graph_of}
use Rattle.tg_hall.specs.declared.answers.Answered.{Answered}
use Rattle.tg_hall.specs.declared.records.Record.{Record}
use Rattle.tg_hall.specs.declared.seats.OpenSession.{OpenSession}
use Rattle.tg_hall.specs.declared.seats.SeatState.{SeatState}
use Rattle.tg_hall.specs.declared.events.Event.{Event}
use Rattle.tg_hall.specs.declared.events.Event.TheVariants.{Begin, Learn, Stage, Put, Abort}
use Rattle.tg_hall.specs.declared.events.HallReply.{HallReply}
use Rattle.tg_hall.specs.declared.events.HallReply.TheVariants as reply
use Rattle.tg_hall.specs.declared.events.HallFault.TheVariants.{NoSeat, NotOpen, JournalFull, Memory}
use Rattle.tg_hall.specs.declared.halls.Hall.TheInside.{Inside}
use Rattle.tg_hall.specs.Answers.{AreAnswers}
use Rattle.tg_hall.specs.Histories.{replay, IsLegal, IsNumbered, count_of}
use Rattle.tg_hall.specs.Worlds.{World, SeatView, seat_of, seat_in, rests_on, with_seat, TakeWithin, HoldTrue, Moves, Happens, Joins, Puts, TakesIn}
use Rattle.tg_hall.specs.Seats.{seen_seat, IsSessionOn, IsConsistent, Rests, AreCounted}
use Rattle.tg_hall.specs.HallFields.{world_of}
use Rattle.tg_hall.proofs.Ordered.{legal-push, legal-at}
use Rattle.tg_hall.proofs.Numbers.{count-other}
use Rattle.tg_hall.proofs.SeatLemmas.{rests-grown}

-- ---- seats by their numbers
pub seat_of-at : (w : World) (k i : ℕ) → i + 1 ≡ k → seat_of w k ≡ slice_get w.seats i
seat_of-at w k i e =
    let test : (k == 0) ≡ false = grind (arith, nat_tests) in
    let place : k - 1 ≡ i = omega arith in
    ap (λ b. if b then None else slice_get w.seats (k - 1)) test ∙ ap (slice_get w.seats) place

pub seat_of-none : (w : World) (k : ℕ) → (k ≡ 0) ⊎ (length w.seats < k) → seat_of w k ≡ None
seat_of-none w k (inl e) = let test : (k == 0) ≡ true = grind (arith, nat_tests) in ap (λ b. if b then None else slice_get w.seats (k - 1)) test
seat_of-none w k (inr lt) =
    let test : (k == 0) ≡ false = grind (arith, nat_tests) in
    ap (λ b. if b then None else slice_get w.seats (k - 1)) test ∙ slice_get_past w.seats (k - 1) (omega arith)

pub view_seat : (h : Inside) (k n i count : ℕ) (s : SeatState) → n ≡ k → i + 1 ≡ n → i < count → count ≡ length h.seats.items → s ≡ get_or h.seats.items i s → seat_of (world_of h) k ≡ Some (seen_seat s)
view_seat h k n i count s m e lt c is =
    seat_of-at (world_of h) k i (e ∙ m) ∙ slice_get-map seen_seat h.seats.items i ∙ ap (option_map seen_seat) (slice_get_read h.seats.items count i s c lt is)

pub view_at : (h : Inside) (i count : ℕ) (s : SeatState) → i < count → count ≡ length h.seats.items → s ≡ get_or h.seats.items i s → slice_get (world_of h).seats i ≡ Some (seen_seat s)
view_at h i count s lt c is = slice_get-map seen_seat h.seats.items i ∙ ap (option_map seen_seat) (slice_get_read h.seats.items count i s c lt is)

pub view_none : (h : Inside) (k n count : ℕ) → n ≡ k → count ≡ length h.seats.items → (n ≡ 0) ⊎ (count < n) → seat_of (world_of h) k ≡ None
view_none h k n count m c (inl e) = seat_of-none (world_of h) k (inl (sym m ∙ e))
view_none h k n count m c (inr lt) = seat_of-none (world_of h) k (inr (let l = length-map h.seats.items seen_seat in omega (arith, l)))

-- what holds of each element holds of the one at an index
pub at_index : (P : SeatState → Type 0) (xs : List SeatState) (i : ℕ) (s : SeatState) → All P xs → i < length xs → s ≡ get_or xs i s → P s
at_index P xs i s h lt is = subst P (sym is) (h i s lt)

-- ---- events
pub happens-none : (w : World) (event : Event) → seat_of w (seat_in event) ≡ None → Happens w event (reply.Refused NoSeat) w
happens-none w event e =
    subst (λ o. MatchOption o ((reply.Refused NoSeat ≡ reply.Refused NoSeat) × (w ≡ w)) (λ s. (t : SeatView) × (later : List Record) × Moves (rests_on w s) w.cells w.history s event (reply.Refused NoSeat) t later × (w ≡ with_seat w (seat_in event) t later)))
    (sym e) (refl, refl)

pub happens-some : (w v : World) (event : Event) (answer : HallReply) (s t : SeatView) (later : List Record) → seat_of w (seat_in event) ≡ Some s → Moves (rests_on w s) w.cells w.history s event answer t later → v ≡ with_seat w (seat_in event) t later → Happens w event answer v
happens-some w v event answer s t later e m is =
    subst (λ o. MatchOption o ((answer ≡ reply.Refused NoSeat) × (v ≡ w)) (λ s. (t : SeatView) × (later : List Record) × Moves (rests_on w s) w.cells w.history s event answer t later × (v ≡ with_seat w (seat_in event) t later)))
    (sym e) (t, later, m, is)

-- the seats after a change of one
pub view_set : (h : Inside) (k i : ℕ) (t : SeatState) (later : List Record) → i + 1 ≡ k
    → (record { opening = h.opening; cells = h.cells; history = later; seats = map seen_seat (set h.seats.items i t) }) ≡ with_seat (world_of h) k (seen_seat t) later
view_set h k i t later e =
    let place : i ≡ k - 1 = omega arith in
    (λ j. record { opening = h.opening; cells = h.cells; history = later; seats = (map-set seen_seat h.seats.items i t ∙ ap (λ n. set (map seen_seat h.seats.items) n (seen_seat t)) place) j })

-- ---- the history after an event
-- a session of the seat of the number k has joined the history
pub record Joined (cells k : ℕ) (history : List Record) (s : SeatView) (later : List Record) : Type 0 where
  pub steps : List Answered
  pub session : s.session ≡ Some steps
  pub all_taken : length history ≤ s.taken
  pub room : length history < cells
  pub put : later ≡ history ++ (record { seat = k; number = count_of k history; steps = steps }) ∷ []

no_place : (history : List Record) (i : ℕ) → slice_get history i ≡ None → length history ≤ i
no_place history i e = by (cases_lt i (length history))
  where
    some : (xs : List Record) (i : ℕ) → i < length xs → is_some (slice_get xs i) ≡ true
    some [] i lt = absurd (omega arith)
    some (x ∷ xs) zero lt = ap is_some (slice_get-get_or (x ∷ xs) zero x lt)
    some (x ∷ xs) (suc i) lt = ap is_some (slice_get-get_or (x ∷ xs) (suc i) x lt)

    by : (i < length history) ⊎ (length history ≤ i) → length history ≤ i
    by (inr le) = le
    by (inl lt) = absurd (true≢false (sym (some history i lt) ∙ ap is_some e))

module _ (cells k : ℕ) (history : List Record) (s t : SeatView) (later : List Record) where
  joined : (steps : List Answered) (answer : HallReply) → s.session ≡ Some steps → slice_get history s.taken ≡ None → Joins cells k history steps s answer t later → (later ≡ history) ⊎ Joined cells k history s later
  joined steps (reply.Put place) e n j = inr (record { steps = steps; session = e; all_taken = no_place history s.taken n; room = j.1; put = j.3 })
  joined steps (reply.Refused JournalFull) e n j = inl j.2
  joined steps (reply.Refused Memory) e n j = inl j.2
  joined steps _ e n j = absurd j

  put_grows : (g : ProtectionGraph) (answer : HallReply) → Puts g cells k history s answer t later → (later ≡ history) ⊎ Joined cells k history s later
  put_grows g answer p = by s.session refl p
    where
      next : (steps : List Answered) (o : Option Record) → s.session ≡ Some steps → slice_get history s.taken ≡ o → MatchOption o (Joins cells k history steps s answer t later) (λ r. TakesIn g r s answer t × (later ≡ history)) → (later ≡ history) ⊎ Joined cells k history s later
      next steps None e n j = joined steps answer e n j
      next steps (Some r) e n j = inl j.1

      by : (o : Option (List Answered)) → s.session ≡ o → MatchOption o ((answer ≡ reply.Refused NotOpen) × (t ≡ s) × (later ≡ history)) (λ steps. MatchOption (slice_get history s.taken) (Joins cells k history steps s answer t later) (λ r. TakesIn g r s answer t × (later ≡ history))) → (later ≡ history) ⊎ Joined cells k history s later
      by None e p = inl p.2
      by (Some steps) e p = next steps (slice_get history s.taken) e refl p

-- an event leaves the history, or a session joins it
pub grows : (g : ProtectionGraph) (cells : ℕ) (history : List Record) (s : SeatView) (event : Event) (answer : HallReply) (t : SeatView) (later : List Record) → Moves g cells history s event answer t later → (later ≡ history) ⊎ Joined cells (seat_in event) history s later
grows g cells history s (Begin k) answer t later m = inl m.1
grows g cells history s (Learn k) answer t later m = inl m.1
grows g cells history s (Stage k step) answer t later m = inl m.1
grows g cells history s (Put k) answer t later m = put_grows cells k history s t later g answer m
grows g cells history s (Abort k) answer t later m = inl m.1

-- ---- what stays true of the history
pub numbered-push : (history : List Record) (r : Record) → IsNumbered history → r.number ≡ count_of r.seat history → IsNumbered (history ++ r ∷ [])
numbered-push history r h e place x is = by (cases_lt place (length history))
  where
    read : get_or (history ++ r ∷ []) place x ≡ x
    read = get_or_from_slice_get (history ++ r ∷ []) place x x is

    by : (place < length history) ⊎ (length history ≤ place) → x.number ≡ count_of x.seat (take place (history ++ r ∷ []))
    by (inl lt) =
        h place x (slice_get_read history (length history) place x refl lt (sym (sym (get_or_append_left history (r ∷ []) x place lt) ∙ read)))
        ∙ ap (count_of x.seat) (sym (take-append-le place history (r ∷ []) (omega arith)))
    by (inr le) =
        let at : length history ≡ place = let w = slice_get_within (history ++ r ∷ []) place x is in omega (arith, w, length-append history (r ∷ [])) in
        let same : r ≡ x = sym (get_or_push history r x place at) ∙ read in
        subst (λ (y : Record). y.number ≡ count_of y.seat (take place (history ++ r ∷ []))) same
        (e ∙ ap (count_of r.seat) (sym (take-append-le place history (r ∷ []) (omega (arith, at)) ∙ take_all place history (omega (arith, at)))))

module _ (g : ProtectionGraph) (cells k : ℕ) (history : List Record) (s : SeatState) (later : List Record) (rest : Rests g history s) where
  all_taken : Joined cells k history (seen_seat s) later → replay g history ≡ graph_of s.graph
  all_taken j = ap (replay g) (sym (take_all s.taken history j.all_taken)) ∙ sym rest.replayed

  session_steps : (o : Option OpenSession) (steps : List Answered) → option_map (λ (o : OpenSession). o.kept.items) o ≡ Some steps → IfSome o (IsSessionOn s.graph) → AreAnswers (graph_of s.graph) steps
  session_steps None steps e h = absurd (true≢false (sym (ap is_some e)))
  session_steps (Some o) steps e h = subst (λ x. IfSome x (AreAnswers (graph_of s.graph))) e h.answers

  pub legal-later : IsLegal g history → IsConsistent s → (later ≡ history) ⊎ Joined cells k history (seen_seat s) later → IsLegal g later
  legal-later l c (inl e) = subst (IsLegal g) (sym e) l
  legal-later l c (inr j) =
      subst (IsLegal g) (sym j.put)
      (legal-push g history _ l (subst (λ h. AreAnswers h j.steps) (sym (all_taken j)) (session_steps s.session j.steps j.session c)))

  pub numbered-later : IsNumbered history → (later ≡ history) ⊎ Joined cells k history (seen_seat s) later → IsNumbered later
  numbered-later n (inl e) = subst IsNumbered (sym e) n
  numbered-later n (inr j) = subst IsNumbered (sym j.put) (numbered-push history _ n refl)

  pub room-later : length history ≤ cells → (later ≡ history) ⊎ Joined cells k history (seen_seat s) later → length later ≤ cells
  room-later h (inl e) = omega (arith, ap length e)
  room-later h (inr j) = omega (arith, ap length j.put, length-append history ((record { seat = k; number = count_of k history; steps = j.steps }) ∷ []), j.room)

  pub rests-later : (later ≡ history) ⊎ Joined cells k history (seen_seat s) later → (seats : List SeatState) → All (Rests g history) seats → All (Rests g later) seats
  rests-later (inl e) seats h = subst (λ x. All (Rests g x) seats) (sym e) h
  rests-later (inr j) seats h = subst (λ x. All (Rests g x) seats) (sym j.put) (λ k d lt. rests-grown g history (get_or seats k d) _ (h k d lt))

-- the counts after an event at the seat of the number k, which stands at the place i
pub counted-later : (cells k i : ℕ) (history later : List Record) (seats : List SeatState) (s : SeatView) (t : SeatState) → i + 1 ≡ k
    → (later ≡ history) ⊎ Joined cells k history s later → t.commits ≡ count_of k later → AreCounted history seats → AreCounted later (set seats i t)
counted-later cells k i history later seats s t e grown now counted j x is = by (cases_lt i j) (cases_lt j i)
  where
    lt : j < length seats
    lt = let w = slice_get_within (set seats i t) j x is in omega (arith, w, length-set seats i t)

    read : get_or (set seats i t) j x ≡ x
    read = get_or_from_slice_get (set seats i t) j x x is

    here : j ≡ i → x.commits ≡ count_of (j + 1) later
    here f =
        let written : x ≡ t = sym read ∙ ap (λ n. get_or (set seats i t) n x) f ∙ get_or-set_same seats i t x (subst (λ n. n < length seats) f lt) in
        let place : k ≡ j + 1 = omega (arith, e, f) in
        ap (λ (y : SeatState). y.commits) written ∙ now ∙ ap (λ n. count_of n later) place

    same : (k ≢ j + 1) → (later ≡ history) ⊎ Joined cells k history s later → count_of (j + 1) later ≡ count_of (j + 1) history
    same f (inl e) = ap (count_of (j + 1)) e
    same f (inr p) = ap (count_of (j + 1)) p.put ∙ count-other (j + 1) history (record { seat = k; number = count_of k history; steps = p.steps }) f

    there : (j ≢ i) → x.commits ≡ count_of (j + 1) later
    there f =
        let kept : x ≡ get_or seats j x = sym read ∙ get_or-set_other seats i j t x f in
        counted j x (slice_get_read seats (length seats) j x refl lt kept) ∙ sym (same (λ p. f (omega (arith, e, p))) grown)

    by : (i < j) ⊎ (j ≤ i) → (j < i) ⊎ (i ≤ j) → x.commits ≡ count_of (j + 1) later
    by (inl a) b = there (λ f. omega (arith, a, f))
    by (inr a) (inl b) = there (λ f. omega (arith, b, f))
    by (inr a) (inr b) = here (omega (arith, a, b))

-- the same where nothing joined it
pub counted-same : (k i : ℕ) (history : List Record) (seats : List SeatState) (s t : SeatState) → i + 1 ≡ k → i < length seats → s ≡ get_or seats i s → t.commits ≡ s.commits → AreCounted history seats → AreCounted history (set seats i t)
counted-same k i history seats s t e lt is same counted =
    counted-later 0 k i history history seats (seen_seat s) t e (inl refl)
    (same ∙ counted i s (slice_get_read seats (length seats) i s refl lt is) ∙ ap (λ n. count_of n history) e) counted

-- the next record that a seat has not taken in is true where the seat stands
pub next_answers : (g : ProtectionGraph) (history : List Record) (s : SeatState) → IsLegal g history → Rests g history s → IfSome (slice_get history s.taken) (λ r. AreAnswers (graph_of s.graph) r.steps)
next_answers g history s l h = by (slice_get history s.taken) refl
  where
    by : (o : Option Record) → slice_get history s.taken ≡ o → IfSome o (λ r. AreAnswers (graph_of s.graph) r.steps)
    by None e = tt
    by (Some r) e = subst (λ k. AreAnswers k r.steps) (sym h.replayed) (legal-at g history s.taken r l e)

-- ---- what holds of the world
pub seats_within : (h : Inside) → All (Rests (graph_of h.opening) h.records.items) h.seats.items → TakeWithin (world_of h)
seats_within h rests =
    All-map (λ (s : SeatView). s.taken ≤ length h.records.items) seen_seat h.seats.items
    (All-weaker (Rests (graph_of h.opening) h.records.items) (λ s. s.taken ≤ length h.records.items) (λ s r. r.within) h.seats.items rests)

sessions_true : (h : Inside) (s : SeatState) → Rests (graph_of h.opening) h.records.items s → IsConsistent s → IfSome (seen_seat s).session (AreAnswers (rests_on (world_of h) (seen_seat s)))
sessions_true h s rest sound = by s.session sound
  where
    by : (o : Option OpenSession) → IfSome o (IsSessionOn s.graph) → IfSome (option_map (λ (o : OpenSession). o.kept.items) o) (AreAnswers (rests_on (world_of h) (seen_seat s)))
    by None on = tt
    by (Some o) on = subst (λ g. AreAnswers g o.kept.items) rest.replayed on.answers

pub seats_true : (h : Inside) → All (Rests (graph_of h.opening) h.records.items) h.seats.items → All IsConsistent h.seats.items → HoldTrue (world_of h)
seats_true h rests sound =
    All-map (λ (s : SeatView). IfSome s.session (AreAnswers (rests_on (world_of h) s))) seen_seat h.seats.items
    (λ i d lt. sessions_true h (get_or h.seats.items i d) (rests i d lt) (sound i d lt))

-- ---- seats at the start
pub fresh_counts : (seats : List SeatState) → All (λ (s : SeatState). s.commits ≡ 0) seats → AreCounted [] seats
fresh_counts seats h i s is = subst (λ (t : SeatState). t.commits ≡ 0) (get_or_from_slice_get seats i s s is) (h i s (slice_get_within seats i s is))

pub replicate-push : {A : Type 0} (n : ℕ) (a : A) → replicate n a ++ a ∷ [] ≡ replicate (n + 1) a
replicate-push n a = by n ∙ ap (λ k. replicate k a) (sym (add-one n))
  where
    by : (n : ℕ) → replicate n a ++ a ∷ [] ≡ replicate (suc n) a
    by zero = refl
    by (suc n) = ap (λ xs. a ∷ xs) (by n)
