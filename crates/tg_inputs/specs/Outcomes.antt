-- What the parts of a report's making bring.
use Rattle.std.specs.Prelude.{◌≡◌, if◌then◌else◌, All, ◌<◌, ℕ, nat_eq, Bool, true, false, List, [], ◌∷◌, ◌++◌, ◌≤◌, length, Option, Some, None, Result, Ok, Err}
use Rattle.tg_graph.specs.declared.rules.Refusal.{Refusal}
use Rattle.tg_graph.specs.declared.session.Reply.TheVariants.{Done, Refused}
use Rattle.tg_graph.specs.Graphs.{ProtectionGraph, has_vertex}
use Rattle.tg_graph.specs.GraphOf.{graph_of}
use Rattle.tg_graph.specs.Limits.{most_vertices, most_cells, most_seats, most_workers}
use Rattle.tg_graph.specs.Rules.{refusal_of, after}
use Rattle.tg_text.specs.declared.rule_text.RuleLine.{RuleLine}
use Rattle.tg_text.specs.declared.script_text.ScriptLine.{ScriptLine}
use Rattle.tg_text.specs.ScriptText.{ScriptOf}
use Rattle.tg_islands.specs.declared.questions.AskFault.{AskFault}
use Rattle.tg_cuts.specs.declared.kept.Ends.{Ends}
use Rattle.tg_cuts.specs.Cuts.{unknown_end_or, cut_fault}
use Rattle.tg_graph.specs.StepWords.{IsStageableAct}
use Rattle.tg_inputs.specs.declared.outcome.Report.{Report}
use Rattle.tg_inputs.specs.declared.outcome.Halt.{Halt}
use Rattle.tg_inputs.specs.declared.outcome.Halt.TheVariants as halt
use Rattle.tg_inputs.specs.declared.inputs.Question.{Question}
use Rattle.tg_inputs.specs.declared.inputs.TableWork.{TableWork}
use Rattle.tg_inputs.specs.declared.inputs.WhoQuestion.{WhoQuestion}
use Rattle.tg_inputs.specs.declared.inputs.ReachQuestion.{ReachQuestion}
use Rattle.tg_inputs.specs.declared.inputs.CutQuestion.{CutQuestion}
use Rattle.tg_words.specs.Reading.{◌>>=◌}
use Rattle.tg_inputs.specs.declared.playing.AppliedRules.{AppliedRules}
use Rattle.tg_inputs.specs.Readings.{ReportText, rules_in, Question as Asked, TableQuestion, WhoQuestion as WhoAsked, ReachQuestion as ReachAsked, CutQuestion as CutAsked}
use Rattle.tg_inputs.specs.Replies.{Played, played, reply_line}

abbrev pub report_text : Report → ReportText
report_text report = record { bytes = report.bytes.items; status = report.status }

-- An outcome of a part, its value seen by view: what the part makes, unless there was no memory.
abbrev pub Brings : {X A : Type 0} → (X → A) → Result X Halt → Result A ReportText → Type 0
Brings view (Ok x) made = made ≡ Ok (view x)
Brings view (Err (halt.Refused report)) made = made ≡ Err (report_text report)
Brings view (Err halt.Memory) made = Unit {0}

-- An outcome of the work on what was read: of a value a report that says of it what it has to, of a fault its report as an error, unless there was no memory.
abbrev pub Makes : {A : Type 0} → (A → ReportText → Type 0) → Result Report Halt → Result A ReportText → Type 0
Makes P (Err halt.Memory) reading = Unit {0}
Makes P (Ok report) (Ok x) = P x (report_text report)
Makes P (Ok report) (Err fault) = ⊥
Makes P (Err (halt.Refused report)) (Ok x) = ⊥
Makes P (Err (halt.Refused report)) (Err fault) = fault ≡ report_text report

abbrev pub question_of : Question → Asked
question_of q = record { graph = graph_of q.graph; rights = q.rights; x = q.x; y = q.y }

-- what a question can count on: its names are vertices, and the graph has no more vertices than a text may name
pub record IsAskable (q : Asked) : Type 0 where
  pub from : has_vertex q.graph q.x ≡ true
  pub to : has_vertex q.graph q.y ≡ true
  pub small : length q.graph.vertices ≤ most_vertices

-- one rule is carried out or refused, and its reply is added to the text
abbrev pub PlaysRule : RuleLine → Bool → List ℕ → List ℕ → ProtectionGraph → ProtectionGraph → Type 0
PlaysRule r true text text' g h = (refusal_of g r.rule ≡ None) × (h ≡ after g r.rule) × (text' ≡ text ++ reply_line r.line Done)
PlaysRule r false text text' g h = (refusal : Refusal) × (refusal_of g r.rule ≡ Some refusal) × (h ≡ g) × (text' ≡ text ++ reply_line r.line (Refused refusal))

-- nothing was done to the graph so far
abbrev pub nothing_played : ProtectionGraph → Played
nothing_played g = record { replies = []; end = g; status = 0 }

-- what rules did, and then others
abbrev pub and_played : Played → Played → Played
and_played p q = record { replies = p.replies ++ q.replies; end = q.end; status = q.status }

-- what rules did, and one more: nothing once one was refused
abbrev pub played_on : Played → RuleLine → Played
played_on p r = if nat_eq p.status 0 then and_played p (played p.end (r ∷ [])) else p

-- what the rules that were read so far did
abbrev pub played_so_far : AppliedRules → Played
played_so_far applied = record { replies = applied.replies.items; end = graph_of applied.graph; status = applied.status }

-- what the rules of a text do to a graph, or the report of the text's first fault
abbrev pub played_in : ProtectionGraph → List ℕ → Result Played ReportText
played_in g text = rules_in text >>= λ rules. Ok (played g rules)

-- an event of a seat that is there, whose step names only rights
pub record IsPlayable (seats : ℕ) (event : ScriptLine) : Type 0 where
  pub seat : 0 < event.seat
  pub there : event.seat ≤ seats
  pub act : IsStageableAct event.act

-- a script that a hall can play
pub record IsPlayableScript (script : ScriptOf) : Type 0 where
  pub some_cells : 0 < script.cells
  pub cells : script.cells ≤ most_cells
  pub some_seats : 0 < script.seats
  pub seats : script.seats ≤ most_seats
  pub events : All (IsPlayable script.seats) script.lines

abbrev pub table_question_of : TableWork → TableQuestion
table_question_of work = record { graph = graph_of work.graph; right = work.right }

-- what a table can count on: no more vertices than a text may name, and a number of workers that there may be
pub record IsTableWork (work : TableWork) : Type 0 where
  pub small : length (graph_of work.graph).vertices ≤ most_vertices
  pub some : 0 < work.workers
  pub few : work.workers ≤ most_workers

abbrev pub who_question_of : WhoQuestion → WhoAsked
who_question_of q = record { graph = graph_of q.graph; rights = q.rights; y = q.y }

abbrev pub reach_question_of : ReachQuestion → ReachAsked
reach_question_of q = record { graph = graph_of q.graph; x = q.x }

abbrev pub cut_question_of : CutQuestion → CutAsked
cut_question_of q = record { graph = graph_of q.graph; right = q.right; x = q.x; y = q.y; kept = q.kept.items }

-- the ends of all these edges are vertices: no fault is found among them, whatever comes later
abbrev pub HaveEnds : ProtectionGraph → List Ends → Type 0
HaveEnds g edges = (later : Option AskFault) → unknown_end_or g edges later ≡ later

-- what a question for a cut can count on: its names are vertices, those of kept edges too, and the graph has no more vertices than a text may name
abbrev pub IsCuttable : CutAsked → Type 0
IsCuttable q = cut_fault q.graph q.x q.y q.kept ≡ None
