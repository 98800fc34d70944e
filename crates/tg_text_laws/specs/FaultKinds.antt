-- The kind of a fault is the least one whose condition holds. Each condition is said by itself, of a line and of what the earlier lines made.
use Rattle.std.specs.Prelude.{◌∷◌, ◌≡◌, ◌↔◌, ◌⊎◌, ℕ, ◌<◌, nat_lt, nat_le, not, ◌&&◌, ◌||◌, Bool, true, false, List, [], length, codes, is_some, slice_get, IsTrue, IsFalse, Option, Err, Contains}
use Rattle.std.specs.Option.{option_map_or}
use Rattle.tg_names.specs.Sets.{is_empty_set}
use Rattle.tg_graph.specs.Additions.{label_between}
use Rattle.tg_graph.specs.Graphs.{ProtectionGraph, has_vertex}
use Rattle.tg_words.specs.declared.faults.TextKind.{TextKind}
use Rattle.tg_words.specs.declared.faults.TextKind.TheVariants.{LineTooLong, BadWord, WordCount, BadNumber, BadName, BadRights, DuplicateVertex, TooManyVertices, UnknownVertex, UnknownGroup, DuplicateEdge, TooMany, NoHeader, NoClaim}
use Rattle.tg_text.specs.declared.rule_text.RuleLine.{RuleLine}
use Rattle.tg_text.specs.declared.script_text.ScriptLine.{ScriptLine}
use Rattle.tg_text.specs.declared.script_text.Header.{Header}
use Rattle.tg_text.specs.declared.script_text.Header.TheVariants.{Nothing, Seats, Whole}
use Rattle.tg_words.specs.Limits.{most_events, most_line_bytes, most_rules}
use Rattle.tg_words.specs.Lines.{lines_of, words_of, is_skipped}
use Rattle.tg_words.specs.Words.{Word, is_word}
use Rattle.tg_words.specs.Reading.{after_line}
use Rattle.tg_words.specs.Versions.{limit_of, version_of}
use Rattle.tg_text.specs.GraphText.{GraphSoFar, nothing_read, graph_line, graph_text}
use Rattle.tg_text.specs.RuleText.{rule_of_line, rule_item, rules_text}
use Rattle.tg_text.specs.ScriptText.{script_item, script_text}
use Rattle.tg_text.specs.Grammar.{IsFirstFault}
use Rattle.tg_text.specs.GraphGrammar.{IsGraphItem}
use Rattle.tg_text.specs.RuleGrammar.{IsRuleItem}
use Rattle.tg_text.specs.ScriptGrammar.{IsScriptItem, EndsEarly}
use Rattle.tg_text_laws.specs.Forms.{Form, form_in, graph_forms, rule_forms, script_form, has_other_count, some_word, is_bad_number, is_bad_name, are_bad_rights}

-- the order of the kinds
abbrev pub order_of : TextKind → ℕ
order_of LineTooLong = 1
order_of BadWord = 2
order_of WordCount = 3
order_of BadNumber = 4
order_of BadName = 5
order_of BadRights = 6
order_of DuplicateVertex = 7
order_of TooManyVertices = 8
order_of UnknownVertex = 9
order_of UnknownGroup = 10
order_of DuplicateEdge = 11
order_of TooMany = 12
order_of NoHeader = 13
order_of NoClaim = 14

-- the condition holds of this kind, and of none before it
pub record IsLeastKind (condition : TextKind → Bool) (kind : TextKind) : Type 0 where
  pub holds : IsTrue (condition kind)
  pub least : (other : TextKind) → order_of other < order_of kind → IsFalse (condition other)

-- of a line: it is too long; or it is not skipped, and the condition holds of its words
abbrev pub of_line : (List Word → TextKind → Bool) → List ℕ → TextKind → Bool
of_line condition line LineTooLong = nat_lt most_line_bytes (length line)
of_line condition line kind = not (is_skipped (words_of line)) && condition (words_of line) kind

-- of words that are to have this form
abbrev pub form_condition : Option Form → List Word → TextKind → Bool
form_condition form words BadWord = not (is_some form)
form_condition form words WordCount = has_other_count form words
form_condition form words BadNumber = some_word is_bad_number form words
form_condition form words BadName = some_word is_bad_name form words
form_condition form words BadRights = some_word are_bad_rights form words
form_condition form words _ = false

-- ---- graphs

-- whether the first word is this one
abbrev pub begins_with : Word → List Word → Bool
begins_with keyword words = option_map_or (λ word. is_word word keyword) (slice_get words 0) false

-- whether there is a word at the place, and it passes the test
abbrev pub passes_at : ℕ → (Word → Bool) → List Word → Bool
passes_at place test words = option_map_or test (slice_get words place) false

-- whether there is an edge from the word at the place 1 to the word at the place 2
abbrev pub names_edge : ProtectionGraph → List Word → Bool
names_edge g words = passes_at 1 (λ x. passes_at 2 (λ y. not (is_empty_set (label_between g x y))) words) words

-- of the words of a line of a graph
abbrev pub graph_condition : GraphSoFar → List Word → TextKind → Bool
graph_condition made words DuplicateVertex = begins_with (codes "vertex") words && passes_at 1 (has_vertex made.1) words
graph_condition made words TooManyVertices = begins_with (codes "vertex") words && nat_le (limit_of (version_of made.0)) (length made.1.vertices)
graph_condition made words UnknownVertex = begins_with (codes "edge") words && (passes_at 1 (λ x. not (has_vertex made.1 x)) words || passes_at 2 (λ y. not (has_vertex made.1 y)) words)
graph_condition made words DuplicateEdge = begins_with (codes "edge") words && names_edge made.1 words
graph_condition made words kind = form_condition (form_in (graph_forms made.0) words) words kind

-- ---- rules

-- of the words of a line of rules
abbrev pub rule_condition : List RuleLine → List Word → TextKind → Bool
rule_condition rules words TooMany = nat_le most_rules (length rules)
rule_condition rules words kind = form_condition (form_in rule_forms words) words kind

-- of a line that is to be one rule
abbrev pub one_rule_condition : List ℕ → TextKind → Bool
one_rule_condition line LineTooLong = nat_lt most_line_bytes (length line)
one_rule_condition line kind = form_condition (form_in rule_forms (words_of line)) (words_of line) kind

-- ---- scripts

abbrev pub is_whole : Header → Bool
is_whole Nothing = false
is_whole (Seats seats) = false
is_whole (Whole seats cells) = true

-- of the words of a line of a script
abbrev pub script_condition : Header × List ScriptLine → List Word → TextKind → Bool
script_condition made words TooMany = is_whole made.0 && nat_le most_events (length made.1)
script_condition made words kind = form_condition (script_form made.0 words) words kind

-- ---- the laws

-- The line with the number m is the first that leads nowhere, and the kind is the least whose condition holds in it.
pub record IsFaultOf {A : Type 0} (item : ℕ → A → List Word → A → Type 0) (condition : A → List Word → TextKind → Bool) (a : A) (lines : List (List ℕ)) (m : ℕ) (kind : TextKind) : Type 0 where
  pub first : IsFirstFault item 1 a lines m
  pub kind_of_line : IsLeastKind (of_line (condition first.before) first.line) kind

-- a line of a graph is refused exactly with the least kind
abbrev pub GraphLineKinds : Type 0
GraphLineKinds = (made : GraphSoFar) (line : List ℕ) (kind : TextKind) → (graph_line made line ≡ Err kind) ↔ IsLeastKind (of_line (graph_condition made) line) kind

-- and a text exactly with its first faulty line and the least kind of that line
abbrev pub GraphTextKinds : Type 0
GraphTextKinds = (text : List ℕ) (m : ℕ) (kind : TextKind) → (graph_text text ≡ Err (m, kind)) ↔ IsFaultOf (λ n. IsGraphItem) graph_condition nothing_read (lines_of text) m kind

-- a line that is to be one rule is refused exactly with the least kind
abbrev pub OneRuleKinds : Type 0
OneRuleKinds = (line : List ℕ) (kind : TextKind) → (rule_of_line line ≡ Err kind) ↔ IsLeastKind (one_rule_condition line) kind

-- and so is a line of rules
abbrev pub RuleLineKinds : Type 0
RuleLineKinds = (n : ℕ) (rules : List RuleLine) (line : List ℕ) (kind : TextKind) → (after_line (rule_item n) rules line ≡ Err kind) ↔ IsLeastKind (of_line (rule_condition rules) line) kind

-- and a text exactly with its first faulty line and the least kind of that line
abbrev pub RulesTextKinds : Type 0
RulesTextKinds = (text : List ℕ) (m : ℕ) (kind : TextKind) → (rules_text text ≡ Err (m, kind)) ↔ IsFaultOf IsRuleItem rule_condition [] (lines_of text) m kind

-- a line of a script is refused exactly with the least kind
abbrev pub ScriptLineKinds : Type 0
ScriptLineKinds = (n : ℕ) (made : Header × List ScriptLine) (line : List ℕ) (kind : TextKind) → (after_line (script_item n) made line ≡ Err kind) ↔ IsLeastKind (of_line (script_condition made) line) kind

-- and a text exactly with its first faulty line and the least kind of that line, or where it ends early
abbrev pub ScriptTextKinds : Type 0
ScriptTextKinds = (text : List ℕ) (m : ℕ) (kind : TextKind) → (script_text text ≡ Err (m, kind)) ↔ (IsFaultOf IsScriptItem script_condition (Nothing, []) (lines_of text) m kind ⊎ ((kind ≡ NoHeader) × EndsEarly (lines_of text) m))

-- `NoHeader` comes exactly where the text ends before both header lines
abbrev pub NoHeaderIsEndsEarly : Type 0
NoHeaderIsEndsEarly = (text : List ℕ) (m : ℕ) → (script_text text ≡ Err (m, NoHeader)) ↔ EndsEarly (lines_of text) m

-- ---- the kinds that each text has

abbrev pub graph_kinds : List TextKind
graph_kinds = LineTooLong ∷ BadWord ∷ WordCount ∷ BadNumber ∷ BadName ∷ BadRights ∷ DuplicateVertex ∷ TooManyVertices ∷ UnknownVertex ∷ DuplicateEdge ∷ []

abbrev pub one_rule_kinds : List TextKind
one_rule_kinds = LineTooLong ∷ BadWord ∷ WordCount ∷ BadName ∷ BadRights ∷ []

abbrev pub rules_kinds : List TextKind
rules_kinds = LineTooLong ∷ BadWord ∷ WordCount ∷ BadName ∷ BadRights ∷ TooMany ∷ []

abbrev pub script_kinds : List TextKind
script_kinds = LineTooLong ∷ BadWord ∷ WordCount ∷ BadNumber ∷ BadName ∷ BadRights ∷ TooMany ∷ NoHeader ∷ []

-- a text has no fault of another kind
abbrev pub GraphHasTheseKinds : Type 0
GraphHasTheseKinds = (text : List ℕ) (m : ℕ) (kind : TextKind) → graph_text text ≡ Err (m, kind) → Contains graph_kinds kind

abbrev pub OneRuleHasTheseKinds : Type 0
OneRuleHasTheseKinds = (line : List ℕ) (kind : TextKind) → rule_of_line line ≡ Err kind → Contains one_rule_kinds kind

abbrev pub RulesHaveTheseKinds : Type 0
RulesHaveTheseKinds = (text : List ℕ) (m : ℕ) (kind : TextKind) → rules_text text ≡ Err (m, kind) → Contains rules_kinds kind

abbrev pub ScriptHasTheseKinds : Type 0
ScriptHasTheseKinds = (text : List ℕ) (m : ℕ) (kind : TextKind) → script_text text ≡ Err (m, kind) → Contains script_kinds kind
