-- The grammar of the text of a graph.
use Rattle.std.specs.Prelude.{◌≡◌, ◌↔◌, ℕ, ◌<◌, true, false, List, [], ◌∷◌, length, codes, Option, Some, None, ◌⊎◌, Ok, Err}
use Rattle.tg_names.specs.declared.right_sets.Rights.{Rights}
use Rattle.tg_names.specs.Names.{IsName, Name}
use Rattle.tg_names.specs.Sets.{is_empty_set}
use Rattle.tg_names.specs.Letters.{set_of_letters}
use Rattle.tg_graph.specs.Graphs.{ProtectionGraph, has_vertex}
use Rattle.tg_graph.specs.Rules.{with_vertex, with_rights}
use Rattle.tg_graph.specs.Additions.{label_between}
use Rattle.tg_words.specs.declared.faults.TextKind.{TextKind}
use Rattle.tg_words.specs.declared.versions.Version.{Version}
use Rattle.tg_words.specs.Lines.{lines_of}
use Rattle.tg_words.specs.Words.{Word}
use Rattle.tg_words.specs.Versions.{has_letters, limit_of, version_of, version_word}
use Rattle.tg_text.specs.GraphText.{GraphSoFar, nothing_read, graph_text}
use Rattle.tg_text.specs.Grammar.{AreLines, IsFirstFault}

-- `version` and its number, where no line was read before
pub record IsVersionLine (made : GraphSoFar) (words : List Word) (next : GraphSoFar) : Type 0 where
  pub version : Version
  pub spelled : words ≡ codes "version" ∷ version_word version ∷ []
  pub first : made.0 ≡ None
  pub makes : next ≡ (Some version, made.1)

-- `vertex` and a name that no earlier line has, where the version has room for one more
pub record IsVertexLine (made : GraphSoFar) (words : List Word) (next : GraphSoFar) : Type 0 where
  pub name : Name
  pub spelled : words ≡ codes "vertex" ∷ name ∷ []
  pub is_name : IsName name
  pub fresh : has_vertex made.1 name ≡ false
  pub room : length made.1.vertices < limit_of (version_of made.0)
  pub makes : next ≡ (Some (version_of made.0), with_vertex made.1 name)

-- `edge`, two vertices between which there is no edge yet, and a label that is not empty, in letters of the version
pub record IsEdgeLine (made : GraphSoFar) (words : List Word) (next : GraphSoFar) : Type 0 where
  pub source : Name
  pub target : Name
  pub letters : Word
  pub label : Rights
  pub spelled : words ≡ codes "edge" ∷ source ∷ target ∷ letters ∷ []
  pub source_is_name : IsName source
  pub target_is_name : IsName target
  pub rights : set_of_letters letters ≡ Some label
  pub some : is_empty_set label ≡ false
  pub in_version : has_letters (version_of made.0) label ≡ true
  pub source_known : has_vertex made.1 source ≡ true
  pub target_known : has_vertex made.1 target ≡ true
  pub fresh : is_empty_set (label_between made.1 source target) ≡ true
  pub makes : next ≡ (Some (version_of made.0), with_rights made.1 source target label)

abbrev pub IsGraphItem : GraphSoFar → List Word → GraphSoFar → Type 0
IsGraphItem made words next = IsVersionLine made words next ⊎ (IsVertexLine made words next ⊎ IsEdgeLine made words next)

-- the lines make the graph, whichever version they begin with
abbrev pub IsGraphText : List (List ℕ) → ProtectionGraph → Type 0
IsGraphText lines g = (begun : Option Version) × AreLines (λ n. IsGraphItem) 1 nothing_read lines (begun, g)

-- a text has a graph exactly where the grammar gives it that graph
abbrev pub GraphTextsAreThose : Type 0
GraphTextsAreThose = (text : List ℕ) (g : ProtectionGraph) → (graph_text text ≡ Ok g) ↔ IsGraphText (lines_of text) g

-- a fault names the first line to which the grammar gives no graph
abbrev pub GraphFaultsAreFirst : Type 0
GraphFaultsAreFirst = (text : List ℕ) (m : ℕ) (kind : TextKind) → graph_text text ≡ Err (m, kind) → IsFirstFault (λ n. IsGraphItem) 1 nothing_read (lines_of text) m
