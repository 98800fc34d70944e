-- The graph of a text has no more vertices than a text may name.
use Rattle.std.proofs.Common.{◌≡◌, ℕ, ◌+◌, ◌≤◌, Bool, true, false, List, [], ◌∷◌, length, Ok, inl, inr, sym, subst, arith, length-append}
use Rattle.std.specs.Bool.{MatchBool}
use Rattle.tg_graph.specs.Graphs.{ProtectionGraph}
use Rattle.tg_graph.specs.Limits.{most_vertices}
use Rattle.tg_words.specs.declared.versions.Version.{Version}
use Rattle.tg_words.specs.declared.versions.Version.TheVariants.{One, Two}
use Rattle.tg_words.specs.Lines.{lines_of, words_of, is_skipped}
use Rattle.tg_words.specs.Words.{Word}
use Rattle.tg_words.specs.Versions.{limit_of, version_of}
use Rattle.tg_text.specs.Grammar.{AreLines}
use Rattle.tg_text.specs.GraphText.{GraphSoFar, graph_text, nothing_read}
use Rattle.tg_text.specs.GraphGrammar.{IsGraphItem}
use Rattle.tg_text.proofs.GraphLaws.{graph_texts_are_those}

abbrev IsSmall : GraphSoFar → Type 0
IsSmall made = length made.1.vertices ≤ most_vertices

limit_is_small : (version : Version) → limit_of version ≤ most_vertices
limit_is_small One = omega arith
limit_is_small Two = omega arith

item_is_small : (made : GraphSoFar) (words : List Word) (next : GraphSoFar) → IsSmall made → IsGraphItem made words next → IsSmall next
item_is_small made words next h (inl v) = subst IsSmall (sym v.makes) h
item_is_small made words next h (inr (inl v)) =
    let room = v.room in
    subst IsSmall (sym v.makes) (omega (arith, room, limit_is_small (version_of made.0), length-append made.1.vertices (v.name ∷ [])))
item_is_small made words next h (inr (inr v)) = subst IsSmall (sym v.makes) h

line_is_small : (made : GraphSoFar) (words : List Word) (next : GraphSoFar) (skipped : Bool) → IsSmall made → MatchBool skipped (next ≡ made) (IsGraphItem made words next) → IsSmall next
line_is_small made words next true h same = subst IsSmall (sym same) h
line_is_small made words next false h item = item_is_small made words next h item

lines_are_small : (n : ℕ) (made : GraphSoFar) (lines : List (List ℕ)) (end : GraphSoFar) → IsSmall made → AreLines (λ n. IsGraphItem) n made lines end → IsSmall end
lines_are_small n made [] end h read = subst IsSmall (sym read) h
lines_are_small n made (line ∷ lines) end h read =
    lines_are_small (n + 1) read.0 lines end (line_is_small made (words_of line) read.0 (is_skipped (words_of line)) h read.1.means) read.2

pub graph_is_small : (bytes : List ℕ) (g : ProtectionGraph) → graph_text bytes ≡ Ok g → length g.vertices ≤ most_vertices
graph_is_small bytes g e =
    let read = (graph_texts_are_those bytes g).0 e in
    lines_are_small 1 nothing_read (lines_of bytes) (read.0, g) (omega arith) read.1
