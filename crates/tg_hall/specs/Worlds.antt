-- The world of a hall: what each event may answer, and the world after it.
use Rattle.std.specs.Prelude.{Bool, true, false, ◌≡◌, ℕ, ◌+◌, ◌-◌, ◌<◌, ◌≤◌, ◌==◌, All, IfSome, if◌then◌else◌, List, [], ◌∷◌, ◌++◌, length, take, slice_get, slice_set, Option, None, Some, MatchOption, Result, Ok, Err, ⊤, ◌&&◌, nat_lt, nat_le, replicate}
use Rattle.tg_graph.specs.declared.session.Step.{Step}
use Rattle.tg_graph.specs.Graphs.{ProtectionGraph}
use Rattle.tg_rows.specs.Rows.{Entries}
use Rattle.tg_graph.specs.GraphOf.{graph_of}
use Rattle.tg_graph.specs.Limits.{most_vertices, most_cells, most_seats}
use Rattle.tg_hall.specs.declared.answers.Answered.{Answered}
use Rattle.tg_hall.specs.declared.records.Record.{Record}
use Rattle.tg_hall.specs.declared.events.Event.{Event}
use Rattle.tg_hall.specs.declared.events.Event.TheVariants.{Begin, Learn, Stage, Put, Abort}
use Rattle.tg_hall.specs.declared.events.HallReply.{HallReply}
use Rattle.tg_hall.specs.declared.events.HallReply.TheVariants as reply
use Rattle.tg_hall.specs.declared.events.HallFault.TheVariants.{NoSeat, AlreadyOpen, NotOpen, Changed, Crowded, JournalFull, Memory}
use Rattle.tg_hall.specs.declared.events.StoreFault.{StoreFault}
use Rattle.tg_hall.specs.declared.events.StoreFault.TheVariants as fault
use Rattle.tg_graph.specs.StepWords.{IsNamedStep}
use Rattle.tg_hall.specs.Answers.{IsAnswer, AreAnswers, after_steps}
use Rattle.tg_hall.specs.Histories.{replay, count_of}
use Rattle.tg_hall.specs.Touches.{IsClear, IsSpoilt, IsOvercrowded}

-- a seat: how many records it has taken in, and the steps of its open session
pub record SeatView : Type 0 where
  pub taken : ℕ
  pub session : Option (List Answered)

-- a hall: the vertices with their rows at the start, the number of cells, the history, and the seats from number 1 on
pub record World : Type 0 where
  pub opening : Entries
  pub cells : ℕ
  pub history : List Record
  pub seats : List SeatView

-- each seat has taken in no more than there is
abbrev pub TakeWithin : World → Type 0
TakeWithin w = All (λ (s : SeatView). s.taken ≤ length w.history) w.seats

-- the seat of a number
abbrev pub seat_of : World → ℕ → Option SeatView
seat_of w k = if k == 0 then None else slice_get w.seats (k - 1)

-- the graph of what the seat has taken in
abbrev pub rests_on : World → SeatView → ProtectionGraph
rests_on w s = replay (graph_of w.opening) (take s.taken w.history)

-- the replies of each open session are true on the graph that its seat rests on
abbrev pub HoldTrue : World → Type 0
HoldTrue w = All (λ (s : SeatView). IfSome s.session (AreAnswers (rests_on w s))) w.seats

abbrev pub with_session : SeatView → Option (List Answered) → SeatView
with_session s session = record { taken = s.taken; session = session }

-- a seat that has taken in nothing
abbrev pub fresh_seat : SeatView
fresh_seat = record { taken = 0; session = None }

abbrev pub one_further : SeatView → SeatView
one_further s = record { taken = s.taken + 1; session = s.session }

-- a session is opened
abbrev pub Opens : SeatView → HallReply → SeatView → Type 0
Opens s reply.Done t = t ≡ with_session s (Some [])
Opens s (reply.Refused Memory) t = t ≡ s
Opens s _ t = ⊥

abbrev pub Begins : SeatView → HallReply → SeatView → Type 0
Begins s answer t = MatchOption s.session (Opens s answer t) (λ _. (answer ≡ reply.Refused AlreadyOpen) × (t ≡ s))

-- a record is taken in, or ends the session, where g is the graph that the seat rests on
abbrev pub TakesIn : ProtectionGraph → Record → SeatView → HallReply → SeatView → Type 0
TakesIn g r s (reply.Learned place) t = (place ≡ s.taken) × IsClear g r.steps s.session × (t ≡ one_further s)
TakesIn g r s (reply.Refused (Changed place name)) t = (place ≡ s.taken) × IsSpoilt g r.steps s.session name × (t ≡ with_session s None)
TakesIn g r s (reply.Refused (Crowded place)) t = (place ≡ s.taken) × IsOvercrowded g r.steps s.session × (t ≡ with_session s None)
TakesIn g r s (reply.Refused Memory) t = IsClear g r.steps s.session × (t ≡ s)
TakesIn g r s _ t = ⊥

-- the next record is taken in, if there is one
abbrev pub Learns : ProtectionGraph → Option Record → SeatView → HallReply → SeatView → Type 0
Learns g next s answer t = MatchOption next ((answer ≡ reply.Nothing) × (t ≡ s)) (λ r. TakesIn g r s answer t)

-- a step is staged in a session with these steps so far
abbrev pub Says : ProtectionGraph → List Answered → Step → SeatView → HallReply → SeatView → Type 0
Says g steps step s (reply.Said answer) t =
    IsAnswer (after_steps g steps) step answer × (t ≡ with_session s (Some (steps ++ (record { step = step; reply = answer }) ∷ [])))
Says g steps step s (reply.Refused Memory) t = t ≡ s
Says g steps step s _ t = ⊥

abbrev pub Stages : ProtectionGraph → Step → SeatView → HallReply → SeatView → Type 0
Stages g step s answer t = MatchOption s.session ((answer ≡ reply.Refused NotOpen) × (t ≡ s)) (λ steps. Says g steps step s answer t)

-- a session is given up
abbrev pub Aborts : SeatView → HallReply → SeatView → Type 0
Aborts s answer t = MatchOption s.session ((answer ≡ reply.Refused NotOpen) × (t ≡ s)) (λ _. (answer ≡ reply.Done) × (t ≡ with_session s None))

-- a session with these steps joins the history, where its seat has taken in all of it
abbrev pub Joins : ℕ → ℕ → List Record → List Answered → SeatView → HallReply → SeatView → List Record → Type 0
Joins cells k history steps s (reply.Put place) t later =
    (place ≡ length history) × (length history < cells) × (t ≡ record { taken = s.taken + 1; session = None })
    × (later ≡ history ++ (record { seat = k; number = count_of k history; steps = steps }) ∷ [])
Joins cells k history steps s (reply.Refused JournalFull) t later = (length history ≡ cells) × (t ≡ with_session s None) × (later ≡ history)
Joins cells k history steps s (reply.Refused Memory) t later = (length history < cells) × (t ≡ s) × (later ≡ history)
Joins cells k history steps s _ t later = ⊥

-- a session is to be put: it joins the history, or its seat takes in the next record
abbrev pub Puts : ProtectionGraph → ℕ → ℕ → List Record → SeatView → HallReply → SeatView → List Record → Type 0
Puts g cells k history s answer t later =
    MatchOption s.session ((answer ≡ reply.Refused NotOpen) × (t ≡ s) × (later ≡ history))
    (λ steps. MatchOption (slice_get history s.taken) (Joins cells k history steps s answer t later) (λ r. TakesIn g r s answer t × (later ≡ history)))

-- what an event does at a seat that rests on the graph g: the reply, the seat after it and the history after it
abbrev pub Moves : ProtectionGraph → ℕ → List Record → SeatView → Event → HallReply → SeatView → List Record → Type 0
Moves g cells history s (Begin k) answer t later = Begins s answer t × (later ≡ history)
Moves g cells history s (Learn k) answer t later = Learns g (slice_get history s.taken) s answer t × (later ≡ history)
Moves g cells history s (Stage k step) answer t later = Stages g step s answer t × (later ≡ history)
Moves g cells history s (Put k) answer t later = Puts g cells k history s answer t later
Moves g cells history s (Abort k) answer t later = Aborts s answer t × (later ≡ history)

-- the seat that an event names
abbrev pub seat_in : Event → ℕ
seat_in (Begin k) = k
seat_in (Learn k) = k
seat_in (Stage k step) = k
seat_in (Put k) = k
seat_in (Abort k) = k

-- the world in which the seat of a number and the history are these
abbrev pub with_seat : World → ℕ → SeatView → List Record → World
with_seat w k t later = record { opening = w.opening; cells = w.cells; history = later; seats = slice_set w.seats (k - 1) t }

-- the world may answer an event so and go on as v
abbrev pub Happens : World → Event → HallReply → World → Type 0
Happens w event answer v =
    MatchOption (seat_of w (seat_in event)) ((answer ≡ reply.Refused NoSeat) × (v ≡ w))
    (λ s. (t : SeatView) × (later : List Record) × Moves (rests_on w s) w.cells w.history s event answer t later × (v ≡ with_seat w (seat_in event) t later))

-- the world may answer a list of events so, one after another, and go on as v
abbrev pub Run : World → List Event → List HallReply → World → Type 0
Run w [] [] v = v ≡ w
Run w (event ∷ events) (answer ∷ answers) v = (mid : World) × Happens w event answer mid × Run mid events answers v
Run w [] (answer ∷ answers) v = ⊥
Run w (event ∷ events) [] v = ⊥

-- each step that an event stages names only rights
abbrev pub IsStageable : Event → Type 0
IsStageable (Begin k) = ⊤
IsStageable (Learn k) = ⊤
IsStageable (Stage k step) = IsNamedStep step
IsStageable (Put k) = ⊤
IsStageable (Abort k) = ⊤

-- whether an event may take memory: to open a session and to give one up take none
abbrev pub takes_memory : Event → Bool
takes_memory (Begin k) = false
takes_memory (Learn k) = true
takes_memory (Stage k step) = true
takes_memory (Put k) = true
takes_memory (Abort k) = false

-- whether memory was refused
abbrev pub is_short_of_memory : HallReply → Bool
is_short_of_memory reply.Done = false
is_short_of_memory (reply.Learned place) = false
is_short_of_memory reply.Nothing = false
is_short_of_memory (reply.Said answer) = false
is_short_of_memory (reply.Put place) = false
is_short_of_memory (reply.Refused NoSeat) = false
is_short_of_memory (reply.Refused AlreadyOpen) = false
is_short_of_memory (reply.Refused NotOpen) = false
is_short_of_memory (reply.Refused (Changed place name)) = false
is_short_of_memory (reply.Refused (Crowded place)) = false
is_short_of_memory (reply.Refused JournalFull) = false
is_short_of_memory (reply.Refused Memory) = true

-- an event that takes no memory is not refused it
abbrev pub IsSpared : Event → HallReply → Type 0
IsSpared event answer = takes_memory event ≡ false → is_short_of_memory answer ≡ false

-- why no hall is made, but for want of memory
abbrev pub opening_fault : ProtectionGraph → ℕ → ℕ → Option StoreFault
opening_fault g cells seats =
    if nat_lt most_vertices (length g.vertices) then Some fault.TooManyVertices
    else (if nat_lt 0 cells && nat_le cells most_cells then (if nat_lt 0 seats && nat_le seats most_seats then None else Some fault.Seats) else Some fault.Cells)

-- a hall before its first event
abbrev pub opened : Entries → ℕ → ℕ → World
opened rows cells seats = record { opening = rows; cells = cells; history = []; seats = replicate seats fresh_seat }

-- an outcome of making a hall
abbrev pub OpensHall : Entries → ℕ → ℕ → Result World StoreFault → Type 0
OpensHall rows cells seats (Ok w) = (opening_fault (graph_of rows) cells seats ≡ None) × (w ≡ opened rows cells seats)
OpensHall rows cells seats (Err fault.Memory) = opening_fault (graph_of rows) cells seats ≡ None
OpensHall rows cells seats (Err fault.TooManyVertices) = opening_fault (graph_of rows) cells seats ≡ Some fault.TooManyVertices
OpensHall rows cells seats (Err fault.Cells) = opening_fault (graph_of rows) cells seats ≡ Some fault.Cells
OpensHall rows cells seats (Err fault.Seats) = opening_fault (graph_of rows) cells seats ≡ Some fault.Seats
