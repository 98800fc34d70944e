-- Races: each seat plays its events, in a thread of its own where one can be started, on a store that all of them share.
use Rattle.std.specs.Prelude.{◌≡◌, ◌⊎◌, ◌==◌, ◌<◌, ◌≤◌, ℕ, ◌+◌, List, [], ◌∷◌, ◌++◌, All, Contains, codes, decimal, filter, length, slice_get, take, Some}
use Rattle.std.specs.List.{flat_map}
use Rattle.tg_graph.specs.declared.session.Act.{Act}
use Rattle.tg_graph.specs.declared.session.Act.TheVariants as act
use Rattle.tg_graph.specs.declared.session.Step.{Step}
use Rattle.tg_graph.specs.declared.session.Reply.{Reply}
use Rattle.tg_graph.specs.Graphs.{ProtectionGraph}
use Rattle.tg_graph.specs.GraphOf.{graph_of}
use Rattle.tg_text.specs.declared.script_text.ScriptLine.{ScriptLine}
use Rattle.tg_text.specs.ScriptText.{ScriptOf}
use Rattle.tg_text.specs.Canonical.{canonical_text}
use Rattle.tg_words.specs.Spelling.{line_of}
use Rattle.tg_journal.specs.Lists.{Begins}
use Rattle.tg_journal.specs.Pass.{KnowsAt}
use Rattle.tg_hall.specs.declared.answers.Answered.{Answered}
use Rattle.tg_hall.specs.declared.records.Record.{Record}
use Rattle.tg_hall.specs.declared.events.HallFault.TheVariants as hall
use Rattle.tg_hall.specs.declared.events.HallReply.TheVariants.{Done, Said, Put, Refused}
use Rattle.tg_store.specs.declared.outcomes.Begun.{Begun}
use Rattle.tg_store.specs.declared.outcomes.Begun.TheVariants as begun
use Rattle.tg_store.specs.declared.outcomes.BeginFault.{BeginFault}
use Rattle.tg_store.specs.declared.outcomes.BeginFault.TheVariants as begin
use Rattle.tg_store.specs.declared.outcomes.Committed.{Committed}
use Rattle.tg_store.specs.declared.outcomes.Committed.TheVariants as committed
use Rattle.tg_store.specs.declared.outcomes.CommitFault.{CommitFault}
use Rattle.tg_store.specs.declared.outcomes.CommitFault.TheVariants as commit
use Rattle.tg_hall.specs.Answers.{IsAnswer, AreAnswers, after_steps}
use Rattle.tg_hall.specs.Histories.{replay, IsLegal}
use Rattle.tg_store.specs.Running.{RunningStore, RunningSeat, RunningSession, IsSeat, GoesOn, PutsNothing, first_seat}
use Rattle.tg_store.specs.Outcomes.{BeginSays, CommitSays, FindsForeign}
use Rattle.tg_plays.specs.declared.turns.Player.{Player}
use Rattle.tg_plays.specs.declared.turns.Player.TheVariants.{Free, Open}
use Rattle.tg_plays.specs.declared.turns.RaceReply.{RaceReply}
use Rattle.tg_plays.specs.declared.turns.RaceReply.TheVariants.{Told, Foreign, Memory}
use Rattle.tg_inputs.specs.Readings.{ReportText, IsFor}
use Rattle.tg_plays.specs.Runs.{outcome_words, playing_in}

-- ---- what a seat does
-- the seat between two events; a session that is open is given up
abbrev pub seat_at : Player → RunningSeat
seat_at (Free s) = s
seat_at (Open s) = s.seat

-- how it is told that no session was opened
abbrev pub unopened_reply : BeginFault → RaceReply
unopened_reply (begin.Foreign place) = Foreign place
unopened_reply begin.Memory = Memory

-- how the opening of a session is told, and what it leaves
abbrev pub begun_reply : Begun → RaceReply
begun_reply (begun.Session s) = Told Done
begun_reply (begun.Refused s fault) = unopened_reply fault

abbrev pub begun_player : Begun → Player
begun_player (begun.Session s) = Open s
begun_player (begun.Refused s fault) = Free s

pub record OpensSession (s : RunningSeat) (answer : RaceReply) (new : Player) : Type 0 where
  pub begun : Begun
  pub says : BeginSays s begun
  pub told : answer ≡ begun_reply begun
  pub left : new ≡ begun_player begun

-- the session with one step more
abbrev pub with_step : RunningSession → Step → Reply → RunningSession
with_step s step reply = record { seat = s.seat; steps = s.steps ++ (record { step = step; reply = reply }) ∷ [] }

-- a step is staged and answered; where memory is refused, nothing is staged
abbrev pub Stages : RunningSession → Step → RaceReply → Player → Type 0
Stages s step answer new =
    ((reply : Reply) × IsAnswer (after_steps (graph_of s.seat.graph) s.steps) step reply × (answer ≡ Told (Said reply)) × (new ≡ Open (with_step s step reply)))
    ⊎ ((answer ≡ Memory) × (new ≡ Open s))

-- how it is told that a session was not put
abbrev pub fault_reply : CommitFault → RaceReply
fault_reply (commit.Changed place name) = Told (Refused (hall.Changed place name))
fault_reply (commit.Crowded place) = Told (Refused (hall.Crowded place))
fault_reply commit.JournalFull = Told (Refused hall.JournalFull)
fault_reply (commit.Foreign place) = Foreign place

-- how a commit is told, and what it leaves: where memory is refused, the session stays open
abbrev pub committed_reply : Committed → RaceReply
committed_reply (committed.Done s receipt) = Told (Put receipt.place)
committed_reply (committed.Refused s fault) = fault_reply fault
committed_reply (committed.Again s) = Memory

abbrev pub committed_player : Committed → Player
committed_player (committed.Done s receipt) = Free s
committed_player (committed.Refused s fault) = Free s
committed_player (committed.Again s) = Open s

pub record CommitsSession (s : RunningSession) (answer : RaceReply) (new : Player) : Type 0 where
  pub committed : Committed
  pub says : CommitSays s committed
  pub told : answer ≡ committed_reply committed
  pub left : new ≡ committed_player committed

-- it is refused, and the seat stays as it is
abbrev pub IsRefusedAs : RaceReply → Player → RaceReply → Player → Type 0
IsRefusedAs why old answer new = (answer ≡ why) × (new ≡ old)

-- what a seat does may be answered so, and leaves it so
abbrev pub Turns : Player → Act → RaceReply → Player → Type 0
Turns (Free s) act.Begin answer new = OpensSession s answer new
Turns (Free s) (act.Stage step) answer new = IsRefusedAs (Told (Refused hall.NotOpen)) (Free s) answer new
Turns (Free s) act.Commit answer new = IsRefusedAs (Told (Refused hall.NotOpen)) (Free s) answer new
Turns (Free s) act.Abort answer new = IsRefusedAs (Told (Refused hall.NotOpen)) (Free s) answer new
Turns (Open s) act.Begin answer new = IsRefusedAs (Told (Refused hall.AlreadyOpen)) (Open s) answer new
Turns (Open s) (act.Stage step) answer new = Stages s step answer new
Turns (Open s) act.Commit answer new = CommitsSession s answer new
Turns (Open s) act.Abort answer new = (answer ≡ Told Done) × (new ≡ Free s.seat)

-- events one after another, with what each came to
abbrev pub TakesTurns : Player → List ScriptLine → List RaceReply → Player → Type 0
TakesTurns old [] [] new = new ≡ old
TakesTurns old [] (a ∷ answers) new = ⊥
TakesTurns old (e ∷ events) [] new = ⊥
TakesTurns old (e ∷ events) (a ∷ answers) new = (mid : Player) × Turns old e.act a mid × TakesTurns mid events answers new

-- the events of a seat
abbrev pub events_of : ℕ → List ScriptLine → List ScriptLine
events_of number events = filter (λ e. e.seat == number) events

-- how a seat played: its events, what each came to, and the seat at the end
pub record SeatPlay : Type 0 where
  pub events : List ScriptLine
  pub answers : List RaceReply
  pub end : RunningSeat

-- the seat of that number played so, from its first event on
pub record IsPlay (store : RunningStore) (events : List ScriptLine) (number : ℕ) (p : SeatPlay) : Type 0 where
  pub own : p.events ≡ events_of number events
  pub player : Player
  pub turns : TakesTurns (Free (first_seat store number)) p.events p.answers player
  pub end : p.end ≡ seat_at player
  pub seat : IsSeat p.end

-- ---- what its lines say
-- what an event came to
abbrev pub race_words : RaceReply → List (List ℕ)
race_words (Told answer) = outcome_words answer
race_words (Foreign place) = codes "refused" ∷ codes "foreign" ∷ decimal place ∷ []
race_words Memory = codes "refused" ∷ codes "memory" ∷ []

-- the line of an outcome, after the number of the event's own line and the seat
abbrev pub race_line : ScriptLine → RaceReply → List ℕ
race_line event answer = line_of (decimal event.line ∷ decimal event.seat ∷ race_words answer)

abbrev pub race_lines : List ScriptLine → List RaceReply → List ℕ
race_lines [] answers = []
race_lines (e ∷ events) [] = []
race_lines (e ∷ events) (a ∷ answers) = race_line e a ++ race_lines events answers

-- the lines of all seats, by their numbers
abbrev pub race_outcomes : List SeatPlay → List ℕ
race_outcomes plays = flat_map (λ p. race_lines p.events p.answers) plays

-- a commit of which lines tell: its place, and the record of the seat, the number and the steps with their replies that they tell
pub record ToldCommit : Type 0 where
  pub place : ℕ
  pub told : Record

-- Lines of a seat, read in turn: how many commits they told of so far, and the steps of the session that is open. Those of a session are the steps that were answered since it was opened.
abbrev pub told_first : ℕ → ℕ → List Answered → Act → RaceReply → (ℕ → List Answered → List ToldCommit) → List ToldCommit
told_first seat number steps act.Begin (Told Done) later = later number []
told_first seat number steps (act.Stage step) (Told (Said reply)) later = later number (steps ++ (record { step = step; reply = reply }) ∷ [])
told_first seat number steps act.Commit (Told (Put place)) later =
    record { place = place; told = record { seat = seat; number = number; steps = steps } } ∷ later (number + 1) []
told_first seat number steps _ _ later = later number steps

abbrev pub told_commits : ℕ → ℕ → List Answered → List ScriptLine → List RaceReply → List ToldCommit
told_commits seat number steps [] answers = []
told_commits seat number steps (e ∷ events) [] = []
told_commits seat number steps (e ∷ events) (a ∷ answers) =
    told_first seat number steps e.act a (λ number steps. told_commits seat number steps events answers)

-- the commits of which the lines of a seat tell
abbrev pub commits_of : ℕ → SeatPlay → List ToldCommit
commits_of number p = told_commits number 0 [] p.events p.answers

-- ---- the one history
-- the records that a seat has taken in
abbrev pub taken_in : RunningSeat → List Record
taken_in s = take s.taken s.pass.seen

-- the commit stands in the history at its place, and its replies are those of the graph there
pub record StandsIn (g : ProtectionGraph) (history : List Record) (c : ToldCommit) : Type 0 where
  pub stands : slice_get history c.place ≡ Some c.told
  pub answers : AreAnswers (replay g (take c.place history)) c.told.steps

-- the record at the place bears the number of a seat that has seen it there
pub record IsSeenByItsSeat (plays : List SeatPlay) (place : ℕ) (r : Record) : Type 0 where
  pub seat : ℕ
  pub play : SeatPlay
  pub plays_so : slice_get plays seat ≡ Some play
  pub bears : r.seat ≡ seat + 1
  pub seen : place < length play.end.pass.seen

-- There is one history. What each seat has taken in is a beginning of it, and each commit of which lines tell stands in it. The other way round, each record of it that bears a seat's number, at a place that this seat has seen, is told by that seat's lines. If each of its records is of that kind, it is legal.
pub record IsHistory (g : ProtectionGraph) (plays : List SeatPlay) (history : List Record) : Type 0 where
  pub begins : (k : ℕ) (p : SeatPlay) → slice_get plays k ≡ Some p → Begins (taken_in p.end) history
  pub stand : (k : ℕ) (p : SeatPlay) → slice_get plays k ≡ Some p → All (StandsIn g history) (commits_of (k + 1) p)
  pub told : (k : ℕ) (p : SeatPlay) → slice_get plays k ≡ Some p → (place : ℕ) (r : Record) → place < length p.end.pass.seen → slice_get history place ≡ Some r → r.seat ≡ k + 1 → Contains (commits_of (k + 1) p) (record { place = place; told = r })
  pub legal : ((place : ℕ) (r : Record) → slice_get history place ≡ Some r → IsSeenByItsSeat plays place r) → IsLegal g history

-- ---- the meetings
-- The first seat, from where its play left it, has met all others: what each of them has seen begins what it has taken in; where there are others, it has taken in all that it has seen; it has put nothing; and what it has seen is no more than some seat has seen.
pub record HasMetOthers (plays : List SeatPlay) (last : RunningSeat) : Type 0 where
  pub first : SeatPlay
  pub is_first : slice_get plays 0 ≡ Some first
  pub goes_on : GoesOn first.end last
  pub nothing_put : PutsNothing first.end last
  pub seat : IsSeat last
  pub met : (k : ℕ) (p : SeatPlay) → slice_get plays (k + 1) ≡ Some p → Begins p.end.pass.seen (taken_in last)
  pub all : 1 < length plays → last.taken ≡ length last.pass.seen
  pub reached : (k : ℕ) × (p : SeatPlay) × (slice_get plays k ≡ Some p) × (last.pass.seen ≡ p.end.pass.seen)

-- The seat has found a record of its own number that it did not put: it knows it at the place from the other seat, which has seen it there, and has itself seen what the other has before that place.
pub record HasFoundForeign (place : ℕ) (other last : RunningSeat) : Type 0 where
  pub finds : FindsForeign place last
  pub before : last.pass.seen ≡ take place other.pass.seen
  pub stored : Record
  pub stands : slice_get other.pass.seen place ≡ Some stored
  pub known : KnowsAt last.pass place stored

-- ---- the report
-- the outcomes, and then a graph
abbrev pub graph_report : List ℕ → ProtectionGraph → ReportText
graph_report outcomes g = record { bytes = outcomes ++ line_of (codes "graph" ∷ []) ++ canonical_text g; status = 0 }

-- the outcomes, and then that a meeting found a record of its seat's own number
abbrev pub foreign_report : List ℕ → ℕ → ReportText
foreign_report outcomes place = record { bytes = outcomes ++ line_of (race_words (Foreign place)); status = 1 }

-- the first seat met all others, and prints the replay of what it has taken in then: the history, which has no more records than there are cells
pub record EndsInGraph (g : ProtectionGraph) (cells : ℕ) (plays : List SeatPlay) (report : ReportText) : Type 0 where
  pub last : RunningSeat
  pub met : HasMetOthers plays last
  pub is : IsHistory g plays (taken_in last)
  pub within : length (taken_in last) ≤ cells
  pub says : report ≡ graph_report (race_outcomes plays) (replay g (taken_in last))

-- in its meetings the first seat, which put nothing in them, found at another seat a record of its own number that it did not put
pub record EndsInForeign (plays : List SeatPlay) (report : ReportText) : Type 0 where
  pub first : SeatPlay
  pub is_first : slice_get plays 0 ≡ Some first
  pub last : RunningSeat
  pub goes_on : GoesOn first.end last
  pub nothing_put : PutsNothing first.end last
  pub other : ℕ
  pub play : SeatPlay
  pub is_other : slice_get plays (other + 1) ≡ Some play
  pub place : ℕ
  pub found : HasFoundForeign place play.end last
  pub says : report ≡ foreign_report (race_outcomes plays) place

-- the seats of a script played on a store over the graph, and the first met all others then
pub record IsRaced (g : ProtectionGraph) (script : ScriptOf) (report : ReportText) : Type 0 where
  pub store : RunningStore
  pub opens : graph_of store.opening ≡ g
  pub cells : length store.cells ≡ script.cells
  pub plays : List SeatPlay
  pub seats : length plays ≡ script.seats
  pub each : (k : ℕ) (p : SeatPlay) → slice_get plays k ≡ Some p → IsPlay store script.lines (k + 1) p
  pub end : EndsInGraph g script.cells plays report ⊎ EndsInForeign plays report

-- the report of a race for its texts
abbrev pub IsRaceReport : List ℕ → List ℕ → ReportText → Type 0
IsRaceReport first second = IsFor (λ playing. IsRaced playing.graph playing.script) (playing_in first second)
