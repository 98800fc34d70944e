-- What the texts and the words of a command give, or the report of the first fault.
use Rattle.std.specs.Prelude.{◌≡◌, ℕ, List, [], ◌∷◌, codes, decimal, Result, Ok, Err, is_ok, ok_or, if◌then◌else◌, nat_eq, nat_lt, ◌||◌}
use Rattle.tg_names.specs.declared.right_sets.Right.{Right}
use Rattle.tg_names.specs.declared.right_sets.Rights.{Rights}
use Rattle.tg_names.specs.Letters.{set_of_letters}
use Rattle.tg_names.specs.Names.{name_of, Name}
use Rattle.tg_graph.specs.Graphs.{ProtectionGraph, has_vertex}
use Rattle.tg_words.specs.declared.faults.TextKind.{TextKind}
use Rattle.tg_words.specs.declared.faults.TextKind.TheVariants as kind
use Rattle.tg_text.specs.declared.rule_text.RuleLine.{RuleLine}
use Rattle.tg_words.specs.Reading.{◌>>=◌}
use Rattle.tg_words.specs.Words.{right_of}
use Rattle.tg_text.specs.GraphText.{graph_text}
use Rattle.tg_text.specs.RuleText.{rules_text}
use Rattle.tg_text.specs.ScriptText.{ScriptOf, script_text}
use Rattle.tg_text.specs.PolicyText.{PolicyLineOf, policy_text}
use Rattle.tg_words.specs.Spelling.{line_of}
use Rattle.tg_graph.specs.Limits.{most_workers}
use Rattle.tg_cuts.specs.declared.kept.Ends.{Ends}

-- a report
pub record ReportText : Type 0 where
  pub bytes : List ℕ
  pub status : ℕ

abbrev pub kind_word : TextKind → List ℕ
kind_word kind.LineTooLong = codes "line-too-long"
kind_word kind.BadWord = codes "bad-word"
kind_word kind.WordCount = codes "word-count"
kind_word kind.BadNumber = codes "bad-number"
kind_word kind.BadName = codes "bad-name"
kind_word kind.BadRights = codes "bad-rights"
kind_word kind.DuplicateVertex = codes "duplicate-vertex"
kind_word kind.TooManyVertices = codes "too-many-vertices"
kind_word kind.UnknownVertex = codes "unknown-vertex"
kind_word kind.UnknownGroup = codes "unknown-group"
kind_word kind.DuplicateEdge = codes "duplicate-edge"
kind_word kind.TooMany = codes "too-many"
kind_word kind.NoHeader = codes "no-header"
kind_word kind.NoClaim = codes "no-claim"

-- the one line of an input that is refused
abbrev pub refusal : List (List ℕ) → ReportText
refusal words = record { bytes = line_of (codes "refused" ∷ words); status = 1 }

-- the fault of a text: which text it is, the line, and what is wrong with it
abbrev pub text_refusal : List ℕ → ℕ × TextKind → ReportText
text_refusal text (n, kind) = refusal (text ∷ codes "line" ∷ decimal n ∷ kind_word kind ∷ [])

-- what a text gives, or the report of its first fault
abbrev pub from_text : {A : Type 0} → List ℕ → Result A (ℕ × TextKind) → Result A ReportText
from_text text (Ok x) = Ok x
from_text text (Err fault) = Err (text_refusal text fault)

abbrev pub graph_in : List ℕ → Result ProtectionGraph ReportText
graph_in bytes = from_text (codes "graph") (graph_text bytes)

abbrev pub rules_in : List ℕ → Result (List RuleLine) ReportText
rules_in bytes = from_text (codes "rules") (rules_text bytes)

abbrev pub script_in : List ℕ → Result ScriptOf ReportText
script_in bytes = from_text (codes "script") (script_text bytes)

abbrev pub policy_lines_in : ProtectionGraph → List ℕ → Result (List PolicyLineOf) ReportText
policy_lines_in g bytes = from_text (codes "policy") (policy_text g bytes)

-- a policy over a graph
pub record PolicyOver : Type 0 where
  pub graph : ProtectionGraph
  pub lines : List PolicyLineOf

-- the policy of a text over the graph of another, which is read first
abbrev pub policy_in : List ℕ → List ℕ → Result PolicyOver ReportText
policy_in first second = do
  g ← graph_in first
  lines ← policy_lines_in g second
  Ok (record { graph = g; lines = lines })

-- the right that a word of one letter writes
abbrev pub right_in : List ℕ → Result Right ReportText
right_in word = ok_or (right_of word) (refusal (codes "bad-right" ∷ []))

-- the set of rights that a word writes
abbrev pub rights_in : List ℕ → Result Rights ReportText
rights_in word = ok_or (set_of_letters word) (refusal (codes "bad-right" ∷ []))

-- a name writes itself
abbrev pub name_in : List ℕ → Result Name ReportText
name_in word = if is_ok (name_of word) then Ok word else Err (refusal (codes "bad-name" ∷ []))

-- a name that is a vertex
abbrev pub vertex_in : ProtectionGraph → Name → Result Name ReportText
vertex_in g v = if has_vertex g v then Ok v else Err (refusal (codes "unknown" ∷ v ∷ []))

-- a question to a graph: whether x can come to have the rights over y
pub record Question : Type 0 where
  pub graph : ProtectionGraph
  pub rights : Rights
  pub x : Name
  pub y : Name

-- what is asked of the graph of a text, the words in their order
abbrev pub question_in : List ℕ → List ℕ → List ℕ → List ℕ → Result Question ReportText
question_in first rights x y = do
  g ← graph_in first
  s ← rights_in rights
  a ← name_in x
  b ← name_in y
  u ← vertex_in g a
  v ← vertex_in g b
  Ok (record { graph = g; rights = s; x = u; y = v })

-- a question to a graph: who can come to have the rights over y
pub record WhoQuestion : Type 0 where
  pub graph : ProtectionGraph
  pub rights : Rights
  pub y : Name

-- what is asked of the graph of a text, the words in their order
abbrev pub who_in : List ℕ → List ℕ → List ℕ → Result WhoQuestion ReportText
who_in first rights y = do
  g ← graph_in first
  s ← rights_in rights
  b ← name_in y
  v ← vertex_in g b
  Ok (record { graph = g; rights = s; y = v })

-- a question to a graph: what x can come to have
pub record ReachQuestion : Type 0 where
  pub graph : ProtectionGraph
  pub x : Name

-- what is asked of the graph of a text
abbrev pub reach_in : List ℕ → List ℕ → Result ReachQuestion ReportText
reach_in first x = do
  g ← graph_in first
  a ← name_in x
  u ← vertex_in g a
  Ok (record { graph = g; x = u })

-- a question to a graph: which rights have to go so that x can't come to have the right over y, where some edges stay as they are
pub record CutQuestion : Type 0 where
  pub graph : ProtectionGraph
  pub right : Right
  pub x : Name
  pub y : Name
  pub kept : List Ends

-- the edge that two words name: both are names, and then both are vertices
abbrev pub edge_in : ProtectionGraph → List ℕ → List ℕ → Result Ends ReportText
edge_in g source target = do
  a ← name_in source
  b ← name_in target
  u ← vertex_in g a
  v ← vertex_in g b
  Ok (record { source = u; target = v })

-- the edges that words name in threes, behind an option each, in turn
abbrev pub kept_in : ProtectionGraph → List (List ℕ) → Result (List Ends) ReportText
kept_in g [] = Ok []
kept_in g (option ∷ []) = Ok []
kept_in g (option ∷ source ∷ []) = Ok []
kept_in g (option ∷ source ∷ target ∷ rest) = edge_in g source target >>= λ edge. kept_in g rest >>= λ edges. Ok (edge ∷ edges)

-- what is asked of the graph of a text, the words in their order
abbrev pub cut_in : List ℕ → List ℕ → List ℕ → List ℕ → List (List ℕ) → Result CutQuestion ReportText
cut_in first right x y kept = do
  g ← graph_in first
  r ← right_in right
  a ← name_in x
  b ← name_in y
  u ← vertex_in g a
  v ← vertex_in g b
  edges ← kept_in g kept
  Ok (record { graph = g; right = r; x = u; y = v; kept = edges })

-- a number of workers that there may be
abbrev pub workers_in : ℕ → Result ℕ ReportText
workers_in workers = if nat_eq workers 0 || nat_lt most_workers workers then Err (refusal (codes "workers" ∷ [])) else Ok workers

-- a question to a graph: for each two vertices, whether the first can come to have the right over the second
pub record TableQuestion : Type 0 where
  pub graph : ProtectionGraph
  pub right : Right

-- what table is asked of the graph of a text, the words in their order
abbrev pub table_in : List ℕ → List ℕ → ℕ → Result TableQuestion ReportText
table_in first right workers = do
  g ← graph_in first
  r ← right_in right
  w ← workers_in workers
  Ok (record { graph = g; right = r })

-- the report of a fault, or one of which the fact holds
abbrev pub IsFor : {A : Type 0} → (A → ReportText → Type 0) → Result A ReportText → ReportText → Type 0
IsFor P (Ok a) report = P a report
IsFor P (Err fault) report = report ≡ fault

abbrev pub Is : ReportText → ReportText → Type 0
Is expected report = report ≡ expected
