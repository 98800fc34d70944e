-- Reports of scripts: the acts of seats one after another on a hall.
use Rattle.std.specs.Prelude.{◌≡◌, ◌<◌, ℕ, List, [], ◌∷◌, ◌++◌, length, codes, decimal, Result, Ok}
use Rattle.tg_graph.specs.Graphs.{ProtectionGraph}
use Rattle.tg_rows.specs.Rows.{Entries}
use Rattle.tg_graph.specs.GraphOf.{graph_of}
use Rattle.tg_text.specs.declared.script_text.ScriptLine.{ScriptLine}
use Rattle.tg_words.specs.Reading.{◌>>=◌}
use Rattle.tg_text.specs.ScriptText.{ScriptOf}
use Rattle.tg_words.specs.Spelling.{reply_words, line_of}
use Rattle.tg_text.specs.Canonical.{canonical_text}
use Rattle.tg_hall.specs.declared.events.HallFault.{HallFault}
use Rattle.tg_hall.specs.declared.events.HallFault.TheVariants.{NoSeat, AlreadyOpen, NotOpen, Changed, Crowded, JournalFull, Memory}
use Rattle.tg_hall.specs.declared.events.HallReply.{HallReply}
use Rattle.tg_hall.specs.declared.events.HallReply.TheVariants.{Done, Learned, Nothing, Said, Put, Refused}
use Rattle.tg_hall.specs.Histories.{replay, IsLegal}
use Rattle.tg_hall.specs.Worlds.{World, opened}
use Rattle.tg_hall.specs.Acts.{Acts}
use Rattle.tg_inputs.specs.Readings.{ReportText, graph_in, script_in}

-- why an act was refused; a missing seat and want of memory are told by no line
abbrev pub fault_words : HallFault → List (List ℕ)
fault_words NoSeat = []
fault_words AlreadyOpen = codes "refused" ∷ codes "already-open" ∷ []
fault_words NotOpen = codes "refused" ∷ codes "not-open" ∷ []
fault_words (Changed place name) = codes "refused" ∷ codes "changed" ∷ decimal place ∷ name ∷ []
fault_words (Crowded place) = codes "refused" ∷ codes "crowded" ∷ decimal place ∷ []
fault_words JournalFull = codes "refused" ∷ codes "journal-full" ∷ []
fault_words Memory = []

-- what an act came to; that a record was taken in, or none was left, is told by no line
abbrev pub outcome_words : HallReply → List (List ℕ)
outcome_words Done = codes "done" ∷ []
outcome_words (Learned place) = []
outcome_words Nothing = []
outcome_words (Said answer) = reply_words answer
outcome_words (Put place) = codes "done" ∷ decimal place ∷ []
outcome_words (Refused fault) = fault_words fault

-- the line of an outcome, after the number of the event's own line and the seat
abbrev pub outcome_line : ScriptLine → HallReply → List ℕ
outcome_line event answer = line_of (decimal event.line ∷ decimal event.seat ∷ outcome_words answer)

-- an event is carried out, and its outcome told in a line
pub record IsOutcome (w : World) (event : ScriptLine) (line : List ℕ) (v : World) : Type 0 where
  pub answer : HallReply
  pub act : Acts w event.seat event.act answer v
  pub told : 0 < length (outcome_words answer)
  pub written : line ≡ outcome_line event answer

-- events one after another, with the text of their outcomes
abbrev pub Plays : World → List ScriptLine → List ℕ → World → Type 0
Plays w [] text v = (text ≡ []) × (v ≡ w)
Plays w (event ∷ events) text v = (mid : World) × (line : List ℕ) × (rest : List ℕ) × IsOutcome w event line mid × Plays mid events rest v × (text ≡ line ++ rest)

-- A script was played on a hall over the graph: the outcomes, and the replay of all records. Each of these is true: its replies are those of the graph at its place.
pub record IsPlayed (g : ProtectionGraph) (script : ScriptOf) (report : ReportText) : Type 0 where
  pub opening : Entries
  pub end : World
  pub outcomes : List ℕ
  pub opens : graph_of opening ≡ g
  pub plays : Plays (opened opening script.cells script.seats) script.lines outcomes end
  pub legal : IsLegal g end.history
  pub says : report ≡ record { bytes = outcomes ++ line_of (codes "graph" ∷ []) ++ canonical_text (replay g end.history); status = 0 }

-- a graph, and a script that is played on a hall over it
pub record Playing : Type 0 where
  pub graph : ProtectionGraph
  pub script : ScriptOf

-- the graph is read first
abbrev pub playing_in : List ℕ → List ℕ → Result Playing ReportText
playing_in first second = do
  g ← graph_in first
  script ← script_in second
  Ok (record { graph = g; script = script })
