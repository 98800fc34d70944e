-- A running store, its seats and their sessions as contracts see them, and what is true of each.
use Rattle.std.specs.Prelude.{◌≡◌, ℕ, ◌≤◌, List, length, take, slice_get, Some}
use Rattle.tg_rows.specs.Rows.{Entries}
use Rattle.tg_graph.specs.Graphs.{ProtectionGraph}
use Rattle.tg_graph.specs.GraphOf.{graph_of}
use Rattle.tg_journal.specs.Lists.{Begins}
use Rattle.tg_journal.specs.Pass.{PassState, IsPass, KnowsAt, Remembers, fresh}
use Rattle.tg_hall.specs.declared.answers.Answered.{Answered}
use Rattle.tg_hall.specs.declared.records.Record.{Record}
use Rattle.tg_hall.specs.Answers.{AreAnswers}
use Rattle.tg_hall.specs.Histories.{replay}

-- a store: the vertices with their rows at the start, and the names of its journal's cells
pub record RunningStore : Type 0 where
  pub opening : Entries
  pub cells : List ℕ

-- a seat: the opening of its store, what its pass knows of the journal, how many of the records that it has seen are taken in, and its copy of the graph
pub record RunningSeat : Type 0 where
  pub opening : Entries
  pub pass : PassState Record
  pub taken : ℕ
  pub graph : Entries

-- an open session: its seat, and its steps with their replies
pub record RunningSession : Type 0 where
  pub seat : RunningSeat
  pub steps : List Answered

abbrev pub seat_number : Record → ℕ
seat_number r = r.seat

-- the seat is one of the store
abbrev pub IsOf : RunningStore → RunningSeat → Type 0
IsOf store s = (s.opening ≡ store.opening) × (s.pass.cells ≡ store.cells)

-- a seat with a pass before its first call
abbrev pub seat_from : Entries → PassState Record → RunningSeat
seat_from opening pass = record { opening = opening; pass = pass; taken = 0; graph = opening }

-- the seat of a number, before its first call
abbrev pub first_seat : RunningStore → ℕ → RunningSeat
first_seat store number = seat_from store.opening (fresh store.cells number)

-- the replay of the first records that the seat has seen, so many as the number says
abbrev pub seen_graph : RunningSeat → ℕ → ProtectionGraph
seen_graph s count = replay (graph_of s.opening) (take count s.pass.seen)

-- at the place stands the seat's record of this number, and it is true there
pub record IsOwnRecord (s : RunningSeat) (i place : ℕ) : Type 0 where
  pub stored : Record
  pub stands : slice_get s.pass.seen place ≡ Some stored
  pub seat : stored.seat ≡ s.pass.number
  pub number : stored.number ≡ i
  pub answers : AreAnswers (seen_graph s place) stored.steps

-- What is true of each seat. Its graph is the replay of the first records that it has seen, so many as it has taken in; the records at `mine` are its commits with the numbers 0, 1, .. in order, each of them true there
pub record IsSeat (s : RunningSeat) : Type 0 where
  pub pass : IsPass seat_number s.pass
  pub within : s.taken ≤ length s.pass.seen
  pub replayed : graph_of s.graph ≡ seen_graph s s.taken
  pub own : (i place : ℕ) → slice_get s.pass.mine i ≡ Some place → IsOwnRecord s i place

-- what is true of each session: its seat is one, and its replies are those that the seat's graph gives
pub record IsSession (s : RunningSession) : Type 0 where
  pub seat : IsSeat s.seat
  pub answers : AreAnswers (graph_of s.seat.graph) s.steps

-- it knows of no record at the first place that it has not seen
abbrev pub KnowsNoMore : RunningSeat → Type 0
KnowsNoMore s = (r : Record) → ¬ KnowsAt s.pass (length s.pass.seen) r

-- the seat goes on: what it knew, had seen and had taken in it still has
pub record GoesOn (old new : RunningSeat) : Type 0 where
  pub opening : new.opening ≡ old.opening
  pub number : new.pass.number ≡ old.pass.number
  pub cells : new.pass.cells ≡ old.pass.cells
  pub known : Remembers old.pass new.pass
  pub seen : Begins old.pass.seen new.pass.seen
  pub taken : old.taken ≤ new.taken

-- and it has put nothing
abbrev pub PutsNothing : RunningSeat → RunningSeat → Type 0
PutsNothing old new = new.pass.mine ≡ old.pass.mine
