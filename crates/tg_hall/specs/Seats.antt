-- The fields of a seat, and what is true of them.
use Rattle.std.specs.Prelude.{slice_get, ◌≡◌, ◌≤◌, ◌+◌, ℕ, List, All, IfSome, take, length, Option, None, Some}
use Rattle.std.specs.Option.{option_map}
use Rattle.tg_rows.specs.Rows.{Entries}
use Rattle.tg_graph.specs.Graphs.{ProtectionGraph}
use Rattle.tg_graph.specs.GraphOf.{graph_of}
use Rattle.tg_hall.specs.declared.seats.OpenSession.{OpenSession}
use Rattle.tg_hall.specs.declared.seats.SeatState.{SeatState}
use Rattle.tg_hall.specs.declared.records.Record.{Record}
use Rattle.tg_hall.specs.declared.answers.Answered.{Answered}
use Rattle.tg_hall.specs.declared.events.HallFault.{HallFault}
use Rattle.tg_hall.specs.declared.events.HallFault.TheVariants.{Changed, Crowded}
use Rattle.tg_hall.specs.Touches.{IsClear, IsSpoilt, IsOvercrowded}
use Rattle.tg_graph.specs.StepWords.{IsNamedStep}
use Rattle.tg_hall.specs.Answers.{AreAnswers}
use Rattle.tg_hall.specs.Histories.{replay, count_of}
use Rattle.tg_hall.specs.Drafted.{IsDraftOf}
use Rattle.tg_hall.specs.Knowing.{IsKnown, forgotten}
use Rattle.tg_hall.specs.Worlds.{SeatView}

-- what the world shows of a seat
abbrev pub seen_seat : SeatState → SeatView
seen_seat s = record { taken = s.taken; session = option_map (λ o. o.kept.items) s.session }

-- the session stands on the base: its draft is that of its steps there, its replies are answers, and what it knows is of that draft
pub record IsSessionOn (base : Entries) (o : OpenSession) : Type 0 where
  pub drawn : IsDraftOf base o.kept.items o.draft
  pub answers : AreAnswers (graph_of base) o.kept.items
  pub named : All (λ a. IsNamedStep a.step) o.kept.items
  pub known : IsKnown base o.draft o.known

-- the session which knows what is still known where the base is another
abbrev pub unknowing : OpenSession → OpenSession
unknowing o = record { draft = o.draft; kept = o.kept; known = forgotten o.known }

-- the seat whose open session does
abbrev pub given_up : SeatState → SeatState
given_up s = record s { session = option_map unknowing s.session }

-- the seat's open session knows nothing that takes memory
abbrev pub KnowsNothing : SeatState → Type 0
KnowsNothing s = IfSome s.session (λ o. o.known ≡ forgotten o.known)

-- an open session stands on its seat's graph
abbrev pub IsConsistent : SeatState → Type 0
IsConsistent s = IfSome s.session (IsSessionOn s.graph)

-- the seat's graph is the replay of what it has taken in
pub record Rests (g : ProtectionGraph) (history : List Record) (s : SeatState) : Type 0 where
  pub within : s.taken ≤ length history
  pub replayed : graph_of s.graph ≡ replay g (take s.taken history)

-- each seat has as its count how many records of the history are its own
abbrev pub AreCounted : List Record → List SeatState → Type 0
AreCounted history seats = (i : ℕ) (s : SeatState) → slice_get seats i ≡ Some s → s.commits ≡ count_of (i + 1) history

-- what keeps a session from resting on a record with these steps as well, if anything does
abbrev pub Obstructs : ProtectionGraph → List Answered → SeatView → Option HallFault → Type 0
Obstructs g committed s None = IsClear g committed s.session
Obstructs g committed s (Some (Changed place name)) = (place ≡ s.taken) × IsSpoilt g committed s.session name
Obstructs g committed s (Some (Crowded place)) = (place ≡ s.taken) × IsOvercrowded g committed s.session
Obstructs g committed s _ = ⊥
