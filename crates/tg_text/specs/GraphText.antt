-- The text of a graph.
use Rattle.std.specs.Prelude.{ℕ, nat_le, ◌&&◌, not, List, [], ◌∷◌, length, codes, Option, None, Some, Result, Ok, Err, if◌then◌else◌, false}
use Rattle.tg_names.specs.declared.right_sets.Rights.{Rights}
use Rattle.tg_names.specs.Names.{Name}
use Rattle.tg_graph.specs.Graphs.{ProtectionGraph, has_vertex}
use Rattle.tg_names.specs.Sets.{is_empty_set}
use Rattle.tg_graph.specs.Rules.{with_vertex, with_rights}
use Rattle.tg_graph.specs.Additions.{label_between}
use Rattle.tg_words.specs.declared.faults.TextKind.{TextKind}
use Rattle.tg_words.specs.declared.faults.TextKind.TheVariants.{BadWord, DuplicateVertex, TooManyVertices, UnknownVertex, DuplicateEdge}
use Rattle.tg_words.specs.declared.versions.Version.{Version}
use Rattle.tg_words.specs.Lines.{lines_of}
use Rattle.tg_words.specs.Reading.{◌>>=◌, after_line, after_lines}
use Rattle.tg_words.specs.Words.{Word, is_word, one_word, three_words, name_at, header_number}
use Rattle.tg_words.specs.Versions.{edge_rights_at, last_version, limit_of, version_numbered, version_of}

abbrev pub empty_graph : ProtectionGraph
empty_graph = record { vertices = []; holds = λ u right v. false }

-- what the lines so far have made: the version with which the text begins, once a line was read, and the graph
abbrev pub GraphSoFar : Type 0
GraphSoFar = Option Version × ProtectionGraph

-- before the first line
abbrev pub nothing_read : GraphSoFar
nothing_read = (None, empty_graph)

-- the graph with one more vertex
abbrev pub with_new_vertex : Version → ProtectionGraph → Name → Result ProtectionGraph TextKind
with_new_vertex version g n =
    if has_vertex g n then Err DuplicateVertex
    else (if nat_le (limit_of version) (length g.vertices) then Err TooManyVertices
    else Ok (with_vertex g n))

-- the graph with one more edge
abbrev pub with_new_edge : ProtectionGraph → Name → Name → Rights → Result ProtectionGraph TextKind
with_new_edge g x y s =
    if not (has_vertex g x && has_vertex g y) then Err UnknownVertex
    else (if not (is_empty_set (label_between g x y)) then Err DuplicateEdge
    else Ok (with_rights g x y s))

-- after the word `vertex`: a name
unfoldable pub vertex_item : Version → ProtectionGraph → List Word → Result ProtectionGraph TextKind
vertex_item version g words = do
  word ← one_word words
  n ← name_at word
  with_new_vertex version g n

-- after the word `edge`: source, target and label
unfoldable pub edge_item : Version → ProtectionGraph → List Word → Result ProtectionGraph TextKind
edge_item version g words = do
  w ← three_words words
  x ← name_at w.0
  y ← name_at w.1
  s ← edge_rights_at version w.2
  with_new_edge g x y s

-- the version that the words of a line name: the first line may name one, and no other
abbrev pub version_item : Option Version → List Word → Result Version TextKind
version_item None words = header_number (codes "version") last_version words >>= λ n. Ok (version_numbered n)
version_item (Some version) words = Err BadWord

unfoldable pub graph_item : GraphSoFar → List Word → Result GraphSoFar TextKind
graph_item made [] = Err BadWord
graph_item made (word ∷ words) =
    let version = version_of made.0 in
    if is_word word (codes "vertex") then (vertex_item version made.1 words >>= λ g. Ok (Some version, g))
    else (if is_word word (codes "edge") then (edge_item version made.1 words >>= λ g. Ok (Some version, g))
    else (version_item made.0 (word ∷ words) >>= λ named. Ok (Some named, made.1)))

-- what was made after a line, or what is wrong with the line
abbrev pub graph_line : GraphSoFar → List ℕ → Result GraphSoFar TextKind
graph_line = after_line graph_item

-- the graph of a text, or the first faulty line and what is wrong with it
unfoldable pub graph_text : List ℕ → Result ProtectionGraph (ℕ × TextKind)
graph_text bytes = after_lines (λ n. graph_item) 1 nothing_read (lines_of bytes) >>= λ made. Ok made.1
