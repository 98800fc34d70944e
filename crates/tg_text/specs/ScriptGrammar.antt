-- The grammar of the text of a script.
use Rattle.std.specs.Prelude.{⊤, ◌≡◌, ◌↔◌, ◌⊎◌, ℕ, ◌+◌, ◌≤◌, ◌<◌, List, [], ◌∷◌, ◌++◌, length, codes, Some, Ok, Err}
use Rattle.tg_names.specs.declared.right_sets.Right.{Right}
use Rattle.tg_graph.specs.declared.session.Step.TheVariants.{Do, Holds, Share}
use Rattle.tg_graph.specs.declared.session.Act.{Act}
use Rattle.tg_graph.specs.declared.session.Act.TheVariants.{Begin, Stage, Commit, Abort}
use Rattle.tg_names.specs.Names.{IsName, Name}
use Rattle.tg_words.specs.declared.faults.TextKind.{TextKind}
use Rattle.tg_text.specs.declared.script_text.ScriptLine.{ScriptLine}
use Rattle.tg_text.specs.declared.script_text.Header.{Header}
use Rattle.tg_text.specs.declared.script_text.Header.TheVariants.{Nothing, Seats, Whole}
use Rattle.tg_words.specs.Lines.{lines_of}
use Rattle.tg_words.specs.Words.{Word, number_of, right_of}
use Rattle.tg_text.specs.ScriptText.{ScriptOf, script_text}
use Rattle.tg_text.specs.Grammar.{AreLines, IsFirstFault}
use Rattle.tg_text.specs.RuleGrammar.{Spells, SpellsRule}
use Rattle.tg_graph.specs.Limits.{most_cells, most_seats}
use Rattle.tg_words.specs.Limits.{most_events}

-- a right and two names
pub record SpellsQuestion (words : List Word) (right : Right) (x y : Name) : Type 0 where
  pub letter : Word
  pub spelled : words ≡ letter ∷ x ∷ y ∷ []
  pub is_right : right_of letter ≡ Some right
  pub x_is_name : IsName x
  pub y_is_name : IsName y

-- the words write the act
abbrev pub SpellsAct : List Word → Act → Type 0
SpellsAct words Begin = words ≡ codes "begin" ∷ []
SpellsAct words (Stage (Do rule)) = SpellsRule words rule
SpellsAct words (Stage (Holds right x y)) = Spells (codes "holds") (λ rest. SpellsQuestion rest right x y) words
SpellsAct words (Stage (Share right x y)) = Spells (codes "share") (λ rest. SpellsQuestion rest right x y) words
SpellsAct words Commit = words ≡ codes "commit" ∷ []
SpellsAct words Abort = words ≡ codes "abort" ∷ []

-- a number from 1 to the limit
pub record SpellsNumber (limit : ℕ) (word : Word) (value : ℕ) : Type 0 where
  pub is_number : number_of word ≡ Some value
  pub within : value ≤ limit

-- the keyword and a number
pub record IsHeaderLine (keyword : Word) (limit : ℕ) (words : List Word) (value : ℕ) : Type 0 where
  pub word : Word
  pub spelled : words ≡ keyword ∷ word ∷ []
  pub number : SpellsNumber limit word value

-- a seat and an act, where there is room for one more event
pub record IsEventLine (n seats : ℕ) (lines : List ScriptLine) (words : List Word) (more : List ScriptLine) : Type 0 where
  pub word : Word
  pub rest : List Word
  pub seat : ℕ
  pub act : Act
  pub spelled : words ≡ word ∷ rest
  pub number : SpellsNumber seats word seat
  pub is_act : SpellsAct rest act
  pub room : length lines < most_events
  pub makes : more ≡ lines ++ record { line = n; seat = seat; act = act } ∷ []

-- first the seats, then the cells, and then the events
abbrev pub IsScriptItem : ℕ → Header × List ScriptLine → List Word → Header × List ScriptLine → Type 0
IsScriptItem n (Nothing, lines) words next = (seats : ℕ) × IsHeaderLine (codes "seats") most_seats words seats × (next ≡ (Seats seats, lines))
IsScriptItem n (Seats seats, lines) words next = (cells : ℕ) × IsHeaderLine (codes "cells") most_cells words cells × (next ≡ (Whole seats cells, lines))
IsScriptItem n (Whole seats cells, lines) words next = (more : List ScriptLine) × IsEventLine n seats lines words more × (next ≡ (Whole seats cells, more))

-- the lines write the script
abbrev pub IsScriptText : List (List ℕ) → ScriptOf → Type 0
IsScriptText lines script = AreLines IsScriptItem 1 (Nothing, []) lines (Whole script.seats script.cells, script.lines)

abbrev pub IsPartial : Header → Type 0
IsPartial Nothing = ⊤
IsPartial (Seats seats) = ⊤
IsPartial (Whole seats cells) = ⊥

-- the lines end before both header lines; m is the line behind the last
pub record EndsEarly (lines : List (List ℕ)) (m : ℕ) : Type 0 where
  pub number : m ≡ length lines + 1
  pub header : Header
  pub events : List ScriptLine
  pub read : AreLines IsScriptItem 1 (Nothing, []) lines (header, events)
  pub partial : IsPartial header

-- a text has a script exactly where the grammar gives it that script
abbrev pub ScriptTextsAreThose : Type 0
ScriptTextsAreThose = (text : List ℕ) (script : ScriptOf) → (script_text text ≡ Ok script) ↔ IsScriptText (lines_of text) script

-- a fault names the first line that leads nowhere, or the line behind the last where the header is not whole
abbrev pub ScriptFaultsAreFirst : Type 0
ScriptFaultsAreFirst = (text : List ℕ) (m : ℕ) (kind : TextKind) → script_text text ≡ Err (m, kind) → IsFirstFault IsScriptItem 1 (Nothing, []) (lines_of text) m ⊎ EndsEarly (lines_of text) m
