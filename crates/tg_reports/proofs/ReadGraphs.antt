-- The graph of a text has names for its vertices, and edges between them.
use Rattle.std.proofs.Common.{◌≡◌, ℕ, ◌+◌, Bool, true, false, ◌⊎◌, inl, inr, List, [], ◌∷◌, Ok, sym, ◌∙◌, subst, IsTrue}
use Rattle.std.specs.Bool.{MatchBool}
use Rattle.std.proofs.lemmas.Bool.{false≢true, or_cases, or_left}
use Rattle.tg_names.specs.declared.right_sets.Right.{Right}
use Rattle.tg_names.specs.declared.right_sets.Rights.{Rights}
use Rattle.tg_names.specs.Names.{IsName, Name, same_name}
use Rattle.tg_names.specs.Sets.{member}
use Rattle.tg_graph.specs.Graphs.{ProtectionGraph, has_vertex, WellFormed}
use Rattle.tg_graph.specs.Rules.{with_vertex, with_rights}
use Rattle.tg_words.specs.Lines.{lines_of, words_of, is_skipped}
use Rattle.tg_words.specs.Words.{Word}
use Rattle.tg_text.specs.Grammar.{AreLines}
use Rattle.tg_text.specs.GraphText.{GraphSoFar, graph_text, nothing_read}
use Rattle.tg_text.specs.GraphGrammar.{IsGraphItem}
use Rattle.tg_text.proofs.GraphLaws.{graph_texts_are_those}
use Rattle.tg_rows.proofs.Rows.{same_bytes}
use Rattle.tg_islands.proofs.NameTests.{any_push, edge_cases}

well_edge : (g : ProtectionGraph) (x z : Name) (s : Rights) → WellFormed g → IsTrue (has_vertex g x) → IsTrue (has_vertex g z) → WellFormed (with_rights g x z s)
well_edge g x z s well x_there z_there = record {
  names = well.names;
  ends = λ u right v has. go u right v (edge_cases g.holds x z s u right v has);
}
  where
    go : (u : Name) (right : Right) (v : Name) → (g.holds u right v ≡ true) ⊎ ((u ≡ x) × (v ≡ z) × (member s right ≡ true)) → IsTrue (has_vertex g u) × IsTrue (has_vertex g v)
    go u right v (inl e) = well.ends u right v e
    go u right v (inr e) = (subst (λ w. IsTrue (has_vertex g w)) (sym e.0) x_there, subst (λ w. IsTrue (has_vertex g w)) (sym e.1) z_there)

well_vertex : (g : ProtectionGraph) (n : Name) → IsName n → WellFormed g → WellFormed (with_vertex g n)
well_vertex g n name well = record {
  names = λ v there. elim (or_cases (has_vertex g v) (same_name v n) (sym (any_push (same_name v) g.vertices n) ∙ there)) [ inl e ↦ well.names v e | inr e ↦ subst IsName (sym (same_bytes v n e)) name ];
  ends = λ u right v has. (old u (well.ends u right v has).0, old v (well.ends u right v has).1);
}
  where
    old : (v : Name) → IsTrue (has_vertex g v) → IsTrue (has_vertex (with_vertex g n) v)
    old v there = any_push (same_name v) g.vertices n ∙ or_left (has_vertex g v) (same_name v n) there

abbrev IsWell : GraphSoFar → Type 0
IsWell made = WellFormed made.1

nothing_is_well : IsWell nothing_read
nothing_is_well = record { names = λ v there. absurd (false≢true there); ends = λ u right v has. absurd (false≢true has) }

item_is_well : (made : GraphSoFar) (words : List Word) (next : GraphSoFar) → IsWell made → IsGraphItem made words next → IsWell next
item_is_well made words next h (inl v) = subst IsWell (sym v.makes) h
item_is_well made words next h (inr (inl v)) = subst IsWell (sym v.makes) (well_vertex made.1 v.name v.is_name h)
item_is_well made words next h (inr (inr v)) = subst IsWell (sym v.makes) (well_edge made.1 v.source v.target v.label h v.source_known v.target_known)

line_is_well : (made : GraphSoFar) (words : List Word) (next : GraphSoFar) (skipped : Bool) → IsWell made → MatchBool skipped (next ≡ made) (IsGraphItem made words next) → IsWell next
line_is_well made words next true h same = subst IsWell (sym same) h
line_is_well made words next false h item = item_is_well made words next h item

lines_are_well : (n : ℕ) (made : GraphSoFar) (lines : List (List ℕ)) (end : GraphSoFar) → IsWell made → AreLines (λ n. IsGraphItem) n made lines end → IsWell end
lines_are_well n made [] end h read = subst IsWell (sym read) h
lines_are_well n made (line ∷ lines) end h read =
    lines_are_well (n + 1) read.0 lines end (line_is_well made (words_of line) read.0 (is_skipped (words_of line)) h read.1.means) read.2

pub graph_is_well_formed : (bytes : List ℕ) (g : ProtectionGraph) → graph_text bytes ≡ Ok g → WellFormed g
graph_is_well_formed bytes g e =
    let read = (graph_texts_are_those bytes g).0 e in
    lines_are_well 1 nothing_read (lines_of bytes) (read.0, g) nothing_is_well read.1
