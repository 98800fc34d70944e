-- The turns of a seat, one after another.
use Rattle.std.proofs.Common.{◌≡◌, inl, inr, ℕ, ◌+◌, ◌<◌, ◌==◌, Bool, true, false, List, [], ◌∷◌, ◌++◌, length, take, get_or, refl, sym, ap, subst, ◌∙◌, append_assoc}
use Rattle.std.specs.Prelude.{if◌then◌else◌}
use Rattle.std.proofs.lemmas.List.{append-nil, take_more}
use Rattle.std.proofs.lemmas.List.Elements.{filter-append}
use Rattle.tg_graph.specs.declared.session.Act.{Act}
use Rattle.tg_graph.specs.declared.session.Act.TheVariants as act
use Rattle.tg_graph.specs.declared.session.Step.{Step}
use Rattle.tg_text.specs.declared.script_text.ScriptLine.{ScriptLine}
use Rattle.tg_store.specs.declared.outcomes.Begun.{Begun}
use Rattle.tg_store.specs.declared.outcomes.Begun.TheVariants as begun
use Rattle.tg_store.specs.declared.outcomes.Committed.{Committed}
use Rattle.tg_store.specs.declared.outcomes.Committed.TheVariants as committed
use Rattle.tg_store.specs.Running.{RunningStore, RunningSeat, RunningSession, IsOf, GoesOn}
use Rattle.tg_store.specs.Outcomes.{BeginSays, CommitSays}
use Rattle.tg_store.proofs.RunningSeats.{goes_on-refl, goes_on-trans}
use Rattle.tg_plays.specs.declared.turns.Player.{Player}
use Rattle.tg_plays.specs.declared.turns.Player.TheVariants.{Free, Open}
use Rattle.tg_plays.specs.declared.turns.RaceReply.{RaceReply}
use Rattle.tg_plays.specs.Races.{seat_at, begun_player, committed_player, with_step, Stages, Turns, TakesTurns, events_of, race_line, race_lines}
use Rattle.tg_plays.specs.RaceParts.{TurnsIf, HasPlayedTurns}

-- ---- a seat goes on
goes_to : (s : RunningSeat) (p q : Player) → q ≡ p → GoesOn s (seat_at p) → GoesOn s (seat_at q)
goes_to s p q e h = subst (λ q. GoesOn s (seat_at q)) (sym e) h

begun-goes_on : (s : RunningSeat) (b : Begun) → BeginSays s b → GoesOn s (seat_at (begun_player b))
begun-goes_on s (begun.Session t) h = h.0
begun-goes_on s (begun.Refused t fault) h = h.0

committed-goes_on : (s : RunningSession) (c : Committed) → CommitSays s c → GoesOn s.seat (seat_at (committed_player c))
committed-goes_on s (committed.Done t receipt) h = h.0
committed-goes_on s (committed.Refused t fault) h = h.0
committed-goes_on s (committed.Again t) h = h.0.0

stages-goes_on : (s : RunningSession) (step : Step) (a : RaceReply) (q : Player) → Stages s step a q → GoesOn s.seat (seat_at q)
stages-goes_on s step a q (inl h) = goes_to s.seat (Open (with_step s step h.0)) q h.3 (goes_on-refl s.seat)
stages-goes_on s step a q (inr h) = goes_to s.seat (Open s) q h.1 (goes_on-refl s.seat)

turn-goes_on : (p q : Player) (done : Act) (a : RaceReply) → Turns p done a q → GoesOn (seat_at p) (seat_at q)
turn-goes_on (Free s) q act.Begin a h = goes_to s (begun_player h.begun) q h.left (begun-goes_on s h.begun h.says)
turn-goes_on (Free s) q (act.Stage step) a h = goes_to s (Free s) q h.1 (goes_on-refl s)
turn-goes_on (Free s) q act.Commit a h = goes_to s (Free s) q h.1 (goes_on-refl s)
turn-goes_on (Free s) q act.Abort a h = goes_to s (Free s) q h.1 (goes_on-refl s)
turn-goes_on (Open s) q act.Begin a h = goes_to s.seat (Open s) q h.1 (goes_on-refl s.seat)
turn-goes_on (Open s) q (act.Stage step) a h = stages-goes_on s step a q h
turn-goes_on (Open s) q act.Commit a h = goes_to s.seat (committed_player h.committed) q h.left (committed-goes_on s h.committed h.says)
turn-goes_on (Open s) q act.Abort a h = goes_to s.seat (Free s.seat) q h.1 (goes_on-refl s.seat)

pub turns-go_on : (p q : Player) (events : List ScriptLine) (answers : List RaceReply) → TakesTurns p events answers q → GoesOn (seat_at p) (seat_at q)
turns-go_on p q [] [] h = goes_to (seat_at p) p q h (goes_on-refl (seat_at p))
turns-go_on p q [] (a ∷ answers) h = absurd h
turns-go_on p q (e ∷ events) [] h = absurd h
turns-go_on p q (e ∷ events) (a ∷ answers) h =
    goes_on-trans (seat_at p) (seat_at h.0) (seat_at q) (turn-goes_on p h.0 e.act a h.1) (turns-go_on h.0 q events answers h.2)

pub still-of : (store : RunningStore) (s t : RunningSeat) → GoesOn s t → IsOf store s → IsOf store t
still-of store s t g h = (g.opening ∙ h.0, g.cells ∙ h.1)

turn_if-goes_on : (own : Bool) (p q : Player) (e : ScriptLine) (text text' : List ℕ) → TurnsIf own p e text text' q → GoesOn (seat_at p) (seat_at q)
turn_if-goes_on true p q e text text' h = turn-goes_on p q e.act h.answer h.turn
turn_if-goes_on false p q e text text' h = goes_to (seat_at p) p q h.1 (goes_on-refl (seat_at p))

pub turn_if-still_of : (store : RunningStore) (own : Bool) (p q : Player) (e : ScriptLine) (text text' : List ℕ) → TurnsIf own p e text text' q → IsOf store (seat_at p) → IsOf store (seat_at q)
turn_if-still_of store own p q e text text' h = still-of store (seat_at p) (seat_at q) (turn_if-goes_on own p q e text text' h)

-- ---- one event more
turns-push : (p q r : Player) (events : List ScriptLine) (answers : List RaceReply) (e : ScriptLine) (a : RaceReply) → TakesTurns p events answers q → Turns q e.act a r → TakesTurns p (events ++ e ∷ []) (answers ++ a ∷ []) r
turns-push p q r [] [] e a h t = (r, subst (λ x. Turns x e.act a r) h t, refl)
turns-push p q r [] (b ∷ answers) e a h t = absurd h
turns-push p q r (f ∷ events) [] e a h t = absurd h
turns-push p q r (f ∷ events) (b ∷ answers) e a h t = (h.0, h.1, turns-push h.0 q r events answers e a h.2 t)

lines-push : (p q : Player) (events : List ScriptLine) (answers : List RaceReply) (e : ScriptLine) (a : RaceReply) → TakesTurns p events answers q → race_lines (events ++ e ∷ []) (answers ++ a ∷ []) ≡ race_lines events answers ++ race_line e a
lines-push p q [] [] e a h = append-nil (race_line e a)
lines-push p q [] (b ∷ answers) e a h = absurd h
lines-push p q (f ∷ events) [] e a h = absurd h
lines-push p q (f ∷ events) (b ∷ answers) e a h =
    ap (λ t. race_line f b ++ t) (lines-push h.0 q events answers e a h.2) ∙ sym (append_assoc (race_line f b) (race_lines events answers) (race_line e a))

played-on : (s : RunningSeat) (own : Bool) (events : List ScriptLine) (p q : Player) (e : ScriptLine) (text text' : List ℕ) → HasPlayedTurns s events text p → TurnsIf own p e text text' q → HasPlayedTurns s (events ++ (if own then e ∷ [] else [])) text' q
played-on s true events p q e text text' h t = record {
  answers = h.answers ++ t.answer ∷ [];
  turns = turns-push (Free s) p q events h.answers e t.answer h.turns t.turn;
  lines = t.added ∙ (ap (λ x. x ++ race_line e t.answer) h.lines ∙ sym (lines-push (Free s) p events h.answers e t.answer h.turns));
}
played-on s false events p q e text text' h t =
    subst (λ es. HasPlayedTurns s es text' q) (sym (append-nil events)) (record {
      answers = h.answers;
      turns = subst (λ x. TakesTurns (Free s) events h.answers x) (sym t.1) h.turns;
      lines = t.0 ∙ h.lines;
    })

events-more : (number : ℕ) (events : List ScriptLine) (i : ℕ) (e : ScriptLine) → i < length events → e ≡ get_or events i e → events_of number (take (i + 1) events) ≡ events_of number (take i events) ++ (if e.seat == number then e ∷ [] else [])
events-more number events i e lt is =
    ap (events_of number) (take_more events i e lt ∙ ap (λ x. take i events ++ x ∷ []) (sym is)) ∙ filter-append (λ (x : ScriptLine). x.seat == number) (take i events) (e ∷ [])

pub played-more : (s : RunningSeat) (number : ℕ) (events : List ScriptLine) (i : ℕ) (p q : Player) (e : ScriptLine) (text text' : List ℕ) → i < length events → e ≡ get_or events i e → HasPlayedTurns s (events_of number (take i events)) text p → TurnsIf (e.seat == number) p e text text' q → HasPlayedTurns s (events_of number (take (i + 1) events)) text' q
played-more s number events i p q e text text' lt is h t =
    subst (λ es. HasPlayedTurns s es text' q) (sym (events-more number events i e lt is)) (played-on s (e.seat == number) (events_of number (take i events)) p q e text text' h t)
