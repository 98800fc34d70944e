-- What the words of a command line ask for.
use Rattle.std.specs.Prelude.{ℕ, ◌*◌, Bool, true, false, ◌&&◌, ◌||◌, List, [], ◌∷◌, length, map, nat_lt, nat_le, bytes_eq, codes, if◌then◌else◌, Option, Some, None}
use Rattle.std.specs.Option.{option_map}
use Rattle.tg_words.specs.Words.{with_digits}
use Rattle.tg_inputs.specs.declared.words.Command.{Command}
use Rattle.tg_inputs.specs.declared.words.Command.TheVariants as command
use Rattle.tg_inputs.specs.declared.words.Call.{Call}
use Rattle.tg_inputs.specs.declared.words.Call.TheVariants as call
use Rattle.tg_inputs.specs.declared.words.Request.{Request}
use Rattle.tg_inputs.specs.declared.words.Request.TheVariants as request

-- a command with its words
pub data CommandWords : Type 0 where
  Case : CommandWords
  Check : CommandWords
  Apply : CommandWords
  Islands : CommandWords
  Share : List ℕ → List ℕ → List ℕ → CommandWords
  Derive : List ℕ → List ℕ → List ℕ → CommandWords
  Table : List ℕ → ℕ → CommandWords
  Run : CommandWords
  Who : List ℕ → List ℕ → CommandWords
  Reach : List ℕ → CommandWords
  Verify : Bool → CommandWords
  -- the right, x, y, and the words that keep edges
  Cut : List ℕ → List ℕ → List ℕ → List (List ℕ) → CommandWords

-- a call with its words
pub data CallWords : Type 0 where
  Input : CallWords
  File : CommandWords → List ℕ → CallWords
  Files : CommandWords → List ℕ → List ℕ → CallWords
  Race : List ℕ → List ℕ → CallWords

-- what is asked for, with its words
pub data RequestWords : Type 0 where
  Help : RequestWords
  Version : RequestWords
  Report : CallWords → RequestWords

abbrev pub command_words : Command → CommandWords
command_words command.Case = Case
command_words command.Check = Check
command_words command.Apply = Apply
command_words command.Islands = Islands
command_words (command.Share rights x y) = Share rights.now x.now y.now
command_words (command.Derive rights x y) = Derive rights.now x.now y.now
command_words (command.Table right workers) = Table right.now workers
command_words command.Run = Run
command_words (command.Who rights y) = Who rights.now y.now
command_words (command.Reach x) = Reach x.now
command_words (command.Verify why) = Verify why
command_words (command.Cut right x y kept) = Cut right.now x.now y.now (map (λ word. word.now) kept.now)

abbrev pub call_words : Call → CallWords
call_words call.Input = Input
call_words (call.File c graph) = File (command_words c) graph.now
call_words (call.Files c graph second) = Files (command_words c) graph.now second.now
call_words (call.Race graph script) = Race graph.now script.now

abbrev pub request_words : Request → RequestWords
request_words request.Help = Help
request_words request.Version = Version
request_words (request.Report c) = Report (call_words c)

-- the command of a call: a graph and rules in one text where nothing else is said; a race has none
abbrev pub command_of : CallWords → Option CommandWords
command_of Input = Some Case
command_of (File command graph) = Some command
command_of (Files command graph second) = Some command
command_of (Race graph script) = None

-- the commands on a graph
abbrev pub graph_command : List ℕ → Option CommandWords
graph_command name = if bytes_eq name (codes "check") then Some Check else (if bytes_eq name (codes "islands") then Some Islands else None)

-- the commands on a graph and a second text
abbrev pub text_command : List ℕ → Option CommandWords
text_command name = if bytes_eq name (codes "apply") then Some Apply else (if bytes_eq name (codes "run") then Some Run else (if bytes_eq name (codes "verify") then Some (Verify false) else None))

-- a number of workers: one to four digits
abbrev pub workers_of : List ℕ → Option ℕ
workers_of [] = None
workers_of (b ∷ bs) = if nat_lt 3 (length bs) then None else with_digits 0 (b ∷ bs)

-- how many workers there are where nothing is said
abbrev pub usual_workers : ℕ
usual_workers = 4

-- the calls on a graph and one word more: a race, a table by the usual number of workers, what a vertex can come to, or a second text
abbrev pub texts_call : List ℕ → List ℕ → List ℕ → Option CallWords
texts_call name graph second =
    if bytes_eq name (codes "race") then Some (Race graph second)
    else (if bytes_eq name (codes "table") then Some (File (Table second usual_workers) graph)
    else (if bytes_eq name (codes "reach") then Some (File (Reach second) graph) else option_map (λ c. Files c graph second) (text_command name)))

-- the calls on a graph and two words more: who can come to have rights over a vertex, and a policy with derivations
abbrev pub two_words_call : List ℕ → List ℕ → List ℕ → List ℕ → Option CallWords
two_words_call name graph second third =
    if bytes_eq name (codes "who") then Some (File (Who second third) graph)
    else (if bytes_eq name (codes "verify") && bytes_eq third (codes "--why") then Some (Files (Verify true) graph second) else None)

-- a table by so many workers
abbrev pub table_command : List ℕ → List ℕ → List ℕ → Option CommandWords
table_command right option workers = if bytes_eq option (codes "--workers") then option_map (λ n. Table right n) (workers_of workers) else None

-- the questions to a graph
abbrev pub question : List ℕ → List ℕ → List ℕ → List ℕ → Option CommandWords
question name right x y =
    if bytes_eq name (codes "share") then Some (Share right x y)
    else (if bytes_eq name (codes "derive") then Some (Derive right x y)
    else (if bytes_eq name (codes "table") then table_command right x y else (if bytes_eq name (codes "cut") then Some (Cut right x y []) else None)))

-- how many edges may be kept
abbrev pub most_kept : ℕ
most_kept = 64

-- three words for each edge that is kept: the option, and the names of its ends
abbrev pub are_keeps : List (List ℕ) → Bool
are_keeps [] = true
are_keeps (option ∷ []) = false
are_keeps (option ∷ source ∷ []) = false
are_keeps (option ∷ source ∷ target ∷ rest) = bytes_eq option (codes "--keep") && are_keeps rest

-- and no more edges than may be kept
abbrev pub are_kept : List (List ℕ) → Bool
are_kept words = nat_le (length words) (3 * most_kept) && are_keeps words

-- the question with words behind y: which rights have to go, where edges are kept
abbrev pub cut_command : List ℕ → List ℕ → List ℕ → List ℕ → List (List ℕ) → Option CommandWords
cut_command name right x y kept = if bytes_eq name (codes "cut") && are_kept kept then Some (Cut right x y kept) else None

-- the call that the words ask for
abbrev pub call_of : List (List ℕ) → Option CallWords
call_of [] = Some Input
call_of (name ∷ []) = None
call_of (name ∷ graph ∷ []) = option_map (λ c. File c graph) (graph_command name)
call_of (name ∷ graph ∷ second ∷ []) = texts_call name graph second
call_of (name ∷ graph ∷ second ∷ third ∷ []) = two_words_call name graph second third
call_of (name ∷ graph ∷ right ∷ x ∷ y ∷ []) = option_map (λ c. File c graph) (question name right x y)
call_of (name ∷ graph ∷ right ∷ x ∷ y ∷ z ∷ more) = option_map (λ c. File c graph) (cut_command name right x y (z ∷ more))

-- what a word asks for that stands alone: the forms of all command lines, or the version
abbrev pub alone : List ℕ → Option RequestWords
alone word =
    if bytes_eq word (codes "--help") || bytes_eq word (codes "-h") then Some Help
    else (if bytes_eq word (codes "--version") || bytes_eq word (codes "-V") then Some Version else None)

-- what the words ask for: a word alone for what it says, and all others for the report of a call
abbrev pub request_of : List (List ℕ) → Option RequestWords
request_of [] = option_map Report (call_of [])
request_of (word ∷ []) = alone word
request_of (word ∷ second ∷ more) = option_map Report (call_of (word ∷ second ∷ more))
