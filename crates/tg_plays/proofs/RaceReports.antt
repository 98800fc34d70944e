-- The report of a race, from what its threads brought back.
use Rattle.std.proofs.Common.{◌≡◌, ◌⊎◌, inl, inr, ℕ, zero, suc, ◌+◌, ◌<◌, List, [], ◌∷◌, ◌++◌, All, Ok, Some, Result, length, map, get_or, is_some, refl, sym, ap, subst, ◌∙◌, arith}
use Rattle.std.specs.Prelude.{slice_get, remove}
use Rattle.std.specs.List.{flat_map}
use Rattle.std.specs.Option.{option_map}
use Rattle.std.specs.declared.alloc.AllocError.{AllocError}
use Rattle.std.proofs.lemmas.Bool.{false≢true}
use Rattle.std.proofs.lemmas.List.{append-nil, length-map, map-append}
use Rattle.std.proofs.lemmas.Grind.{flat_map-append}
use Rattle.std.proofs.lemmas.List.Elements.{All-nil, All-cons}
use Rattle.std.proofs.lemmas.Option.{slice_get_within, slice_get-map, get_or_from_slice_get}
use Rattle.tg_graph.specs.Graphs.{ProtectionGraph}
use Rattle.tg_graph.specs.GraphOf.{graph_of}
use Rattle.tg_text.specs.declared.script_text.ScriptLine.{ScriptLine}
use Rattle.tg_text.specs.ScriptText.{ScriptOf}
use Rattle.tg_journal.specs.Lists.{Begins}
use Rattle.tg_store.specs.declared.outcomes.StoreMeetFault.{StoreMeetFault}
use Rattle.tg_store.specs.declared.outcomes.StoreMeetFault.TheVariants as meet
use Rattle.tg_hall.specs.declared.records.Record.{Record}
use Rattle.tg_hall.specs.Histories.{replay}
use Rattle.tg_store.specs.Running.{RunningStore, RunningSeat, IsOf, IsSeat, GoesOn, PutsNothing, first_seat, seen_graph}
use Rattle.tg_store.proofs.RunningSeats.{begins-back, begins-get, begins-length, begins-trans}
use Rattle.tg_plays.specs.declared.racing.Finished.{Finished}
use Rattle.tg_plays.specs.declared.turns.Player.{Player}
use Rattle.tg_plays.specs.declared.turns.Player.TheVariants.{Free}
use Rattle.tg_inputs.specs.Readings.{ReportText}
use Rattle.tg_plays.specs.Races.{seat_at, events_of, graph_report, foreign_report, race_outcomes, taken_in, TakesTurns, SeatPlay, IsPlay, HasMetOthers, HasFoundForeign, EndsInGraph, EndsInForeign, IsRaced}
use Rattle.tg_plays.specs.RaceParts.{IsFinished, AreFinished, AreGathered, MeetsAll, MeetingsFound, EndsInFault, EndsSo, EndsRace}
use Rattle.tg_plays.proofs.RaceTurns.{turns-go_on, still-of}
use Rattle.tg_plays.proofs.RaceHistory.{taken-begins_seen, taken-goes_on, history-is}

-- ---- what the threads brought back
pub gathered-more : (results : List (Result Finished AllocError)) (text text' : List ℕ) (seats seats' : List RunningSeat) (x : Result Finished AllocError) (f : Finished) → x ≡ Ok f → AreGathered results text seats → text' ≡ text ++ f.text.items → seats' ≡ seats ++ f.seat ∷ [] → AreGathered (results ++ x ∷ []) text' seats'
gathered-more results text text' seats seats' x f is h t s = record {
  finished = h.finished ++ f ∷ [];
  all = (λ i. h.all i ++ is i ∷ []) ∙ sym (map-append Ok h.finished (f ∷ []));
  texts = t ∙ ((λ i. h.texts i ++ sym (append-nil f.text.items) i) ∙ sym (flat_map-append (λ (f : Finished). f.text.items) h.finished (f ∷ [])));
  ends = s ∙ (ap (λ ss. ss ++ f.seat ∷ []) h.ends ∙ sym (map-append (λ (f : Finished). f.seat) h.finished (f ∷ [])));
}

-- the first is taken out of a list
pub removed-first : (xs : List RunningSeat) (x : RunningSeat) (ys : List RunningSeat) → 0 < length xs → x ≡ get_or xs 0 x → ys ≡ remove xs 0 → xs ≡ x ∷ ys
removed-first [] x ys lt e r = absurd (omega (arith, lt))
removed-first (z ∷ zs) x ys lt e r = λ i. sym e i ∷ sym r i

-- ---- the end of the report
module _ (text : List ℕ) (seats : List RunningSeat) (first : RunningSeat) (others met : List RunningSeat) (last : RunningSeat) (report : ReportText) (are : seats ≡ first ∷ others) (go : GoesOn first last) (put : PutsNothing first last) (kept : IsSeat last) (same : met ≡ others) where
  pub ends-in_graph : (g : ProtectionGraph) → MeetsAll first met last → report ≡ graph_report text g → g ≡ seen_graph last last.taken → EndsRace text seats report
  ends-in_graph g all says graph = record {
    first = first;
    others = others;
    are = are;
    last = last;
    goes_on = go;
    nothing_put = put;
    seat = kept;
    end = inl (subst (λ met. MeetsAll first met last) same all, says ∙ ap (graph_report text) graph);
  }

  pub ends-in_fault : (fault : StoreMeetFault) → MeetingsFound fault met last → EndsInFault text fault report → EndsRace text seats report
  ends-in_fault fault found h = record {
    first = first;
    others = others;
    are = are;
    last = last;
    goes_on = go;
    nothing_put = put;
    seat = kept;
    end = inr (h.place, subst (λ f. MeetingsFound f others last) h.is (subst (λ met. MeetingsFound fault met last) same found), h.says);
  }

-- ---- the plays
-- how a seat played, from itself on
record IsPlayFrom (events : List ScriptLine) (s : RunningSeat) (p : SeatPlay) : Type 0 where
  own : p.events ≡ events_of s.pass.number events
  player : Player
  turns : TakesTurns (Free s) p.events p.answers player
  end : p.end ≡ seat_at player
  seat : IsSeat p.end

record ArePlays (events : List ScriptLine) (seats : List RunningSeat) (finished : List Finished) : Type 0 where
  plays : List SeatPlay
  count : length plays ≡ length seats
  texts : flat_map (λ (f : Finished). f.text.items) finished ≡ race_outcomes plays
  ends : map (λ (f : Finished). f.seat) finished ≡ map (λ (p : SeatPlay). p.end) plays
  each : (k : ℕ) (p : SeatPlay) → slice_get plays k ≡ Some p → (s : RunningSeat) × (slice_get seats k ≡ Some s) × IsPlayFrom events s p

play_of : (events : List ScriptLine) (s : RunningSeat) (f : Finished) → IsFinished events s f → SeatPlay
play_of events s f h = record { events = events_of s.pass.number events; answers = h.played.answers; end = f.seat }

some-play : (p q : SeatPlay) → Some p ≡ Some q → p ≡ q
some-play p q e = cc

some-seat : (s t : RunningSeat) → Some s ≡ Some t → s ≡ t
some-seat s t e = cc

plays-are : (events : List ScriptLine) (seats : List RunningSeat) (finished : List Finished) → length finished ≡ length seats → AreFinished events seats (map Ok finished) → ArePlays events seats finished
unfolding play_of
plays-are events [] [] n h = record { plays = []; count = refl; texts = refl; ends = refl; each = λ k p e. absurd (omega (arith, slice_get_within [] k p e)) }
plays-are events [] (f ∷ fs) n h = absurd (omega (arith, n))
plays-are events (s ∷ ss) [] n h = absurd (omega (arith, n))
plays-are events (s ∷ ss) (f ∷ fs) n h =
    let here : IsFinished events s f = h zero (Ok f) s (omega arith) in
    let rest = plays-are events ss fs (omega (arith, n)) (λ k d t lt. h (suc k) d t (omega (arith, lt))) in
    let p = play_of events s f here in
    record {
      plays = p ∷ rest.plays;
      count = omega (arith, rest.count);
      texts = λ i. here.played.lines i ++ rest.texts i;
      ends = ap (λ es. f.seat ∷ es) rest.ends;
      each = λ k q e. by k q rest here e;
    }
  where
    by : (k : ℕ) (q : SeatPlay) (rest : ArePlays events ss fs) (here : IsFinished events s f) → slice_get (play_of events s f here ∷ rest.plays) k ≡ Some q → (t : RunningSeat) × (slice_get (s ∷ ss) k ≡ Some t) × IsPlayFrom events t q
    by zero q rest here e = (s, refl, subst (IsPlayFrom events s) (some-play (play_of events s f here) q e) (record { own = refl; player = here.player; turns = here.played.turns; end = here.end; seat = here.seat }))
    by (suc k) q rest here e = rest.each k q e

-- ---- the seats after their plays
next : (k : ℕ) → k + 1 ≡ suc k
next k = omega arith

all-ends : (P : RunningSeat → Type 0) (plays : List SeatPlay) → ((k : ℕ) (p : SeatPlay) → slice_get plays k ≡ Some p → P p.end) → All P (map (λ (p : SeatPlay). p.end) plays)
all-ends P [] h = All-nil P
all-ends P (p ∷ ps) h = All-cons P p.end (map (λ (p : SeatPlay). p.end) ps) (h zero p refl) (all-ends P ps (λ k q e. h (suc k) q e))

module _ (store : RunningStore) (events : List ScriptLine) (plays : List SeatPlay) (each : (k : ℕ) (p : SeatPlay) → slice_get plays k ≡ Some p → IsPlay store events (k + 1) p) where
  end-of : (k : ℕ) (p : SeatPlay) → slice_get plays k ≡ Some p → IsOf store p.end
  end-of k p e =
      let play = each k p e in
      let start = first_seat store (k + 1) in
      subst (IsOf store) (sym play.end) (still-of store start (seat_at play.player) (turns-go_on (Free start) play.player p.events p.answers play.turns) (refl, refl))

  -- the end of the play at a place
  end-at : (ends : List RunningSeat) → ends ≡ map (λ (p : SeatPlay). p.end) plays → (k : ℕ) (p : SeatPlay) → slice_get plays k ≡ Some p → slice_get ends k ≡ Some p.end
  end-at ends are k p e = ap (λ es. slice_get es k) are ∙ slice_get-map (λ (p : SeatPlay). p.end) plays k ∙ ap (option_map (λ (p : SeatPlay). p.end)) e

  -- the play that ends in this seat
  play-at : (ends : List RunningSeat) → ends ≡ map (λ (p : SeatPlay). p.end) plays → (k : ℕ) (s : RunningSeat) → slice_get ends k ≡ Some s → (p : SeatPlay) × (slice_get plays k ≡ Some p) × (p.end ≡ s)
  play-at ends are k s e = by plays k (sym (ap (λ es. slice_get es k) are) ∙ e)
    where
      by : (ps : List SeatPlay) (k : ℕ) → slice_get (map (λ (p : SeatPlay). p.end) ps) k ≡ Some s → (p : SeatPlay) × (slice_get ps k ≡ Some p) × (p.end ≡ s)
      by [] k e = absurd (false≢true (ap is_some e))
      by (p ∷ ps) zero e = (p, refl, some-seat p.end s e)
      by (p ∷ ps) (suc k) e = by ps k e

  module _ (first : RunningSeat) (others : List RunningSeat) (are : first ∷ others ≡ map (λ (p : SeatPlay). p.end) plays) (last : RunningSeat) (go : GoesOn first last) (put : PutsNothing first last) (kept : IsSeat last) where
    the-first : (p : SeatPlay) × (slice_get plays 0 ≡ Some p) × (p.end ≡ first)
    the-first = play-at (first ∷ others) are 0 first refl

    module _ (h : MeetsAll first others last) where
      met-each : (k : ℕ) (p : SeatPlay) → slice_get plays (k + 1) ≡ Some p → Begins p.end.pass.seen (taken_in last)
      met-each k p e =
          let at : slice_get others k ≡ Some p.end = ap (slice_get (first ∷ others)) (sym (next k)) ∙ end-at (first ∷ others) are (k + 1) p e in
          subst (λ (other : RunningSeat). Begins other.pass.seen (taken_in last)) (get_or_from_slice_get others k p.end p.end at) (h.met k p.end (slice_get_within others k p.end at))

      -- what each has taken in, and what it has seen
      each-begins : (k : ℕ) (p : SeatPlay) → slice_get plays k ≡ Some p → Begins (taken_in p.end) (taken_in last) × Begins p.end.pass.seen last.pass.seen
      each-begins k p e = by k (end-at (first ∷ others) are k p e) e
        where
          by : (k : ℕ) → slice_get (first ∷ others) k ≡ Some p.end → slice_get plays k ≡ Some p → Begins (taken_in p.end) (taken_in last) × Begins p.end.pass.seen last.pass.seen
          by zero at e = subst (λ (s : RunningSeat). Begins (taken_in s) (taken_in last) × Begins s.pass.seen last.pass.seen) (some-seat first p.end at) (taken-goes_on first last go, go.seen)
          by (suc k) at e =
              let met = met-each k p (ap (slice_get plays) (next k) ∙ e) in
              (begins-trans (taken_in p.end) p.end.pass.seen (taken_in last) (taken-begins_seen p.end) met, begins-trans p.end.pass.seen (taken_in last) last.pass.seen met (taken-begins_seen last))

      -- a record of the history stands at its place where a seat has seen it
      agrees : (k : ℕ) (p : SeatPlay) → slice_get plays k ≡ Some p → (place : ℕ) (r : Record) → place < length p.end.pass.seen → slice_get (taken_in last) place ≡ Some r → slice_get p.end.pass.seen place ≡ Some r
      agrees k p e place r lt at =
          begins-back p.end.pass.seen last.pass.seen place r (each-begins k p e).1 lt (begins-get (taken_in last) last.pass.seen place r (taken-begins_seen last) at)

      met-others : HasMetOthers plays last
      met-others =
          let count : length plays ≡ length (first ∷ others) = sym (length-map plays (λ (p : SeatPlay). p.end)) ∙ sym (ap length are) in
          let some = play-at (first ∷ others) are h.reached.0 h.reached.1 h.reached.2 in
          record {
            first = the-first.0;
            is_first = the-first.1;
            goes_on = subst (λ s. GoesOn s last) (sym the-first.2) go;
            nothing_put = subst (λ s. PutsNothing s last) (sym the-first.2) put;
            seat = kept;
            met = met-each;
            all = λ lt. h.all (omega (arith, lt, count));
            reached = (h.reached.0, some.0, some.1, h.reached.3 ∙ sym (ap (λ (s : RunningSeat). s.pass.seen) some.2));
          }

      in-graph : (g : ProtectionGraph) (cells : ℕ) (text : List ℕ) (report : ReportText) → graph_of store.opening ≡ g → length store.cells ≡ cells → text ≡ race_outcomes plays → report ≡ graph_report text (replay (graph_of last.opening) (taken_in last)) → EndsInGraph g cells plays report
      in-graph g cells text report opens size texts says =
          let of = end-of 0 the-first.0 the-first.1 in
          let opening = go.opening ∙ (ap (λ (s : RunningSeat). s.opening) (sym the-first.2) ∙ of.0) in
          let row : length last.pass.cells ≡ cells = ap length (go.cells ∙ (ap (λ (s : RunningSeat). s.pass.cells) (sym the-first.2) ∙ of.1)) ∙ size in
          let graph : replay (graph_of last.opening) (taken_in last) ≡ replay g (taken_in last) = ap (λ rows. replay (graph_of rows) (taken_in last)) opening ∙ ap (λ g. replay g (taken_in last)) opens in
          record {
            last = last;
            met = met-others;
            is = history-is g store opens events plays each (taken_in last) (λ k p e. (each-begins k p e).0) agrees;
            within = let few = begins-length (taken_in last) last.pass.seen (taken-begins_seen last) in let most = kept.pass.within in omega (arith, few, most, row);
            says = says ∙ (λ i. graph_report (texts i) (graph i));
          }

    in-foreign : (text : List ℕ) (report : ReportText) (place : ℕ) → text ≡ race_outcomes plays → MeetingsFound (meet.Foreign place) others last → report ≡ foreign_report text place → EndsInForeign plays report
    in-foreign text report place texts h says =
        let other = play-at (first ∷ others) are (h.index + 1) h.other (ap (slice_get (first ∷ others)) (next h.index) ∙ h.is_other) in
        record {
          first = the-first.0;
          is_first = the-first.1;
          last = last;
          goes_on = subst (λ s. GoesOn s last) (sym the-first.2) go;
          nothing_put = subst (λ s. PutsNothing s last) (sym the-first.2) put;
          other = h.index;
          play = other.0;
          is_other = other.1;
          place = place;
          found = subst (λ s. HasFoundForeign place s last) (sym other.2) h.found;
          says = says ∙ (λ i. foreign_report (texts i) place);
        }

    pub race-ends : (g : ProtectionGraph) (cells : ℕ) (text : List ℕ) (report : ReportText) → graph_of store.opening ≡ g → length store.cells ≡ cells → text ≡ race_outcomes plays → EndsSo text first others last report → EndsInGraph g cells plays report ⊎ EndsInForeign plays report
    race-ends g cells text report opens size texts (inl h) = inl (in-graph h.0 g cells text report opens size texts h.1)
    race-ends g cells text report opens size texts (inr h) = inr (in-foreign text report h.0 texts h.1 h.2)

-- ---- the race
module _ (store : RunningStore) (script : ScriptOf) (seats : List RunningSeat) (count : length seats ≡ script.seats) (starts : (k : ℕ) → k < script.seats → slice_get seats k ≡ Some (first_seat store (k + 1))) where
  pub seats-of : All (IsOf store) seats
  seats-of k d lt = subst (IsOf store) (sym (get_or_from_slice_get seats k (first_seat store (k + 1)) d (starts k (omega (arith, lt, count))))) (refl, refl)

  module _ (results : List (Result Finished AllocError)) (len : length results ≡ length seats) (done : AreFinished script.lines seats results) (text : List ℕ) (ends : List RunningSeat) (gathered : AreGathered results text ends) where
    the-plays : ArePlays script.lines seats gathered.finished
    the-plays =
        let n : length gathered.finished ≡ length seats = sym (length-map gathered.finished Ok) ∙ (sym (ap length gathered.all) ∙ len) in
        plays-are script.lines seats gathered.finished n (subst (AreFinished script.lines seats) gathered.all done)

    each-play : (k : ℕ) (p : SeatPlay) → slice_get the-plays.plays k ≡ Some p → IsPlay store script.lines (k + 1) p
    each-play k p e =
        let h = the-plays.each k p e in
        let lt = slice_get_within seats k h.0 h.1 in
        let same = some-seat h.0 (first_seat store (k + 1)) (sym h.1 ∙ starts k (omega (arith, lt, count))) in
        let play = subst (λ s. IsPlayFrom script.lines s p) same h.2 in
        record { own = play.own; player = play.player; turns = play.turns; end = play.end; seat = play.seat }

    pub ends-of : All (IsOf store) ends
    ends-of = subst (All (IsOf store)) (sym (gathered.ends ∙ the-plays.ends)) (all-ends (IsOf store) the-plays.plays (end-of store script.lines the-plays.plays each-play))

    pub race-is : (g : ProtectionGraph) (report : ReportText) → graph_of store.opening ≡ g → length store.cells ≡ script.cells → EndsRace text ends report → IsRaced g script report
    race-is g report opens cells h = record {
      store = store;
      opens = opens;
      cells = cells;
      plays = the-plays.plays;
      seats = the-plays.count ∙ count;
      each = each-play;
      end = race-ends store script.lines the-plays.plays each-play h.first h.others (sym h.are ∙ (gathered.ends ∙ the-plays.ends)) h.last h.goes_on h.nothing_put h.seat g script.cells text report opens cells (gathered.texts ∙ the-plays.texts) h.end;
    }
