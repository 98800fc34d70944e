-- The canonical text of a graph.
use Rattle.std.specs.Prelude.{ℕ, nat_le, ◌&&◌, Bool, List, [], ◌∷◌, ◌++◌, length, codes, if◌then◌else◌}
use Rattle.std.specs.List.{flat_map, list_all}
use Rattle.std.specs.declared.cmp.Ordering.{Ordering}
use Rattle.std.specs.Ordering.{nat_cmp}
use Rattle.std.specs.BTreeSet.{insert_key}
use Rattle.std.specs.Cmp.Lexicographic.{slice_cmp}
use Rattle.tg_names.specs.declared.right_sets.Rights.{Rights}
use Rattle.tg_names.specs.Sets.{is_empty_set}
use Rattle.tg_names.specs.Names.{Name}
use Rattle.tg_graph.specs.Graphs.{ProtectionGraph}
use Rattle.tg_graph.specs.Additions.{label_between}
use Rattle.tg_words.specs.declared.versions.Version.{Version}
use Rattle.tg_words.specs.declared.versions.Version.TheVariants.{One, Two}
use Rattle.tg_words.specs.Spelling.{spaced, line_of, rights_text}
use Rattle.tg_words.specs.Versions.{has_letters, limit_of, version_word}

-- the order of names: by their bytes, a prefix first
abbrev pub name_cmp : Name → Name → Ordering
name_cmp = slice_cmp nat_cmp

-- each of the names once, in name order
abbrev pub in_name_order : List Name → List Name
in_name_order [] = []
in_name_order (v ∷ vs) = insert_key name_cmp (in_name_order vs) v

abbrev pub vertex_line : Name → List ℕ
vertex_line v = line_of (codes "vertex" ∷ v ∷ [])

-- the line of the edge from u to v; none for an empty label
abbrev pub edge_line : Name → Name → Rights → List ℕ
edge_line u v label = if is_empty_set label then [] else line_of (codes "edge" ∷ u ∷ v ∷ rights_text label ∷ [])

-- what the line of each edge from u begins with
abbrev pub edge_front : Name → List ℕ
edge_front u = spaced (codes "edge" ∷ u ∷ [])

-- what stands behind that in the line of the edge to v
abbrev pub edge_end : Name → Rights → List ℕ
edge_end v label = 32 ∷ line_of (v ∷ rights_text label ∷ [])

-- the lines of the edges from u to those of the vertices to which there is one
abbrev pub row_text : ProtectionGraph → List Name → Name → List ℕ
row_text g vs u = flat_map (λ v. edge_line u v (label_between g u v)) vs

-- whether the version has letters for each label between the names
abbrev pub letters_suffice : Version → ProtectionGraph → List Name → Bool
letters_suffice version g vs = list_all (λ u. list_all (λ v. has_letters version (label_between g u v)) vs) vs

-- whether the version has room for the vertices of the graph, and letters for its labels
abbrev pub can_write : Version → ProtectionGraph → Bool
can_write version g = let vs = in_name_order g.vertices in nat_le (length vs) (limit_of version) && letters_suffice version g vs

-- a graph is written in version 1 where that can write it, else in version 2
abbrev pub version_for : ProtectionGraph → Version
version_for g = if can_write One g then One else Two

-- the line that names the version; none for version 1
abbrev pub version_line : Version → List ℕ
version_line One = []
version_line Two = line_of (codes "version" ∷ version_word Two ∷ [])

-- the version, the vertices in name order, then the edges in order of source, then target
abbrev pub canonical_text : ProtectionGraph → List ℕ
canonical_text g = let vs = in_name_order g.vertices in version_line (version_for g) ++ (flat_map vertex_line vs ++ flat_map (row_text g vs) vs)
