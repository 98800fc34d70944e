-- The text of a script.
use Rattle.std.specs.Prelude.{⊤, All, ℕ, ◌+◌, ◌<◌, ◌≤◌, List, [], ◌∷◌, length, codes, Result, Ok, Err, if◌then◌else◌}
use Rattle.tg_names.specs.declared.right_sets.Right.{Right}
use Rattle.tg_graph.specs.declared.session.Step.TheVariants.{Do, Holds, Share}
use Rattle.tg_graph.specs.declared.session.Act.{Act}
use Rattle.tg_graph.specs.declared.session.Act.TheVariants.{Begin, Stage, Commit, Abort}
use Rattle.tg_names.specs.Sets.{IsNamed}
use Rattle.tg_graph.specs.Rules.{rights_of}
use Rattle.tg_names.specs.Names.{Name}
use Rattle.tg_words.specs.declared.faults.TextKind.{TextKind}
use Rattle.tg_words.specs.declared.faults.TextKind.TheVariants.{BadWord, WordCount, NoHeader}
use Rattle.tg_text.specs.declared.script_text.ScriptLine.{ScriptLine}
use Rattle.tg_text.specs.declared.script_text.Script.{Script}
use Rattle.tg_text.specs.declared.script_text.Header.{Header}
use Rattle.tg_text.specs.declared.script_text.Header.TheVariants.{Nothing, Seats, Whole}
use Rattle.tg_words.specs.Lines.{lines_of}
use Rattle.tg_words.specs.Reading.{◌>>=◌, after_lines, with_item}
use Rattle.tg_words.specs.Words.{Word, is_word, no_words, three_words, name_at, right_at, number_up_to, header_number}
use Rattle.tg_text.specs.RuleText.{rule_of_words}
use Rattle.tg_graph.specs.Limits.{most_cells, most_seats}
use Rattle.tg_words.specs.Limits.{most_events}

-- a script without where it lies in memory
pub record ScriptOf : Type 0 where
  pub seats : ℕ
  pub cells : ℕ
  pub lines : List ScriptLine

abbrev pub script_of : Script → ScriptOf
script_of script = record { seats = script.seats; cells = script.cells; lines = script.lines.items }

-- a right and two names
unfoldable pub right_and_names : List Word → Result (Right × Name × Name) TextKind
right_and_names words = do
  w ← three_words words
  x ← name_at w.1
  y ← name_at w.2
  right ← right_at w.0
  Ok (right, x, y)

-- no further word
abbrev pub act_alone : Act → List Word → Result Act TextKind
act_alone act words = do
  _ ← no_words words
  Ok act

-- the act that the words after the number of a seat write
unfoldable pub act_of_words : List Word → Result Act TextKind
act_of_words [] = Err BadWord
act_of_words (word ∷ words) =
    if is_word word (codes "begin") then act_alone Begin words
    else (if is_word word (codes "commit") then act_alone Commit words
    else (if is_word word (codes "abort") then act_alone Abort words
    else (if is_word word (codes "holds") then (right_and_names words >>= λ a. Ok (Stage (Holds a.0 a.1 a.2)))
    else (if is_word word (codes "share") then (right_and_names words >>= λ a. Ok (Stage (Share a.0 a.1 a.2)))
    else (rule_of_words (word ∷ words) >>= λ rule. Ok (Stage (Do rule)))))))

-- The event of a line. That its act has no word of its own, or too few or too many, comes before what is wrong with the seat.
abbrev pub seated : ℕ → Result ℕ TextKind → Result Act TextKind → Result ScriptLine TextKind
seated n (Ok seat) (Ok act) = Ok (record { line = n; seat = seat; act = act })
seated n (Ok seat) (Err kind) = Err kind
seated n (Err kind) (Ok act) = Err kind
seated n (Err kind) (Err BadWord) = Err BadWord
seated n (Err kind) (Err WordCount) = Err WordCount
seated n (Err kind) (Err _) = Err kind

unfoldable pub event_of_words : ℕ → ℕ → List Word → Result ScriptLine TextKind
event_of_words n seats [] = Err BadWord
event_of_words n seats (word ∷ words) = seated n (number_up_to seats word) (act_of_words words)

-- one more event, of the line with this number
unfoldable pub event_item : ℕ → ℕ → List ScriptLine → List Word → Result (List ScriptLine) TextKind
event_item n seats lines words = with_item most_events lines (event_of_words n seats words)

-- what a line adds to the header and the events that the earlier lines made
unfoldable pub script_item : ℕ → Header × List ScriptLine → List Word → Result (Header × List ScriptLine) TextKind
script_item n (Nothing, lines) words = header_number (codes "seats") most_seats words >>= λ seats. Ok (Seats seats, lines)
script_item n (Seats seats, lines) words = header_number (codes "cells") most_cells words >>= λ cells. Ok (Whole seats cells, lines)
script_item n (Whole seats cells, lines) words = event_item n seats lines words >>= λ more. Ok (Whole seats cells, more)

-- a script has its whole header; where it has not, the fault is on the line after the last
abbrev pub with_header : ℕ → Header × List ScriptLine → Result ScriptOf (ℕ × TextKind)
with_header end (Nothing, lines) = Err (end, NoHeader)
with_header end (Seats seats, lines) = Err (end, NoHeader)
with_header end (Whole seats cells, lines) = Ok (record { seats = seats; cells = cells; lines = lines })

-- the script of a text, or the first faulty line and what is wrong with it
unfoldable pub script_text : List ℕ → Result ScriptOf (ℕ × TextKind)
script_text bytes = after_lines script_item 1 (Nothing, []) (lines_of bytes) >>= λ script. with_header (length (lines_of bytes) + 1) script

-- no set of rights has an unnamed bit
abbrev pub IsNamedAct : Act → Type 0
IsNamedAct Begin = ⊤
IsNamedAct (Stage (Do rule)) = IsNamed (rights_of rule)
IsNamedAct (Stage (Holds right x y)) = ⊤
IsNamedAct (Stage (Share right x y)) = ⊤
IsNamedAct Commit = ⊤
IsNamedAct Abort = ⊤

abbrev pub AreNamedEvents : List ScriptLine → Type 0
AreNamedEvents lines = All (λ line. IsNamedAct line.act) lines

-- a number from 1 to the limit
abbrev pub IsCount : ℕ → ℕ → Type 0
IsCount limit n = (0 < n) × (n ≤ limit)

-- the header keeps its limits, and each event is of one of the seats
pub record IsWithinLimits (script : ScriptOf) : Type 0 where
  pub seats : IsCount most_seats script.seats
  pub cells : IsCount most_cells script.cells
  pub events : All (λ event. IsCount script.seats event.seat) script.lines
