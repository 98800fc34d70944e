use Rattle.std.proofs.Common.{◌≡◌, ◌++◌, ◌∙◌, ◌&&◌, nat_le, length, if◌then◌else◌, sym}
use Rattle.std.specs.List.{flat_map, list_all}
use Rattle.tg_graph.specs.Graphs.{ProtectionGraph, SameGraph}
use Rattle.tg_names.specs.Sets.{rights_where}
use Rattle.tg_words.specs.declared.versions.Version.TheVariants.{One, Two}
use Rattle.tg_words.specs.Versions.{has_letters, limit_of}
use Rattle.tg_text.specs.Canonical.{edge_line, in_name_order, version_line, vertex_line}
use Rattle.tg_text.proofs.NameOrder.{among-in_order, strict-in_order, strict_same}
use Rattle.tg_text_laws.proofs.equal_graphs_have_one_text.Goals as goal

same_order : (g h : ProtectionGraph) → SameGraph g h → in_name_order g.vertices ≡ in_name_order h.vertices
same_order g h s =
    strict_same (in_name_order g.vertices) (in_name_order h.vertices) (strict-in_order g.vertices) (strict-in_order h.vertices)
    (λ v. among-in_order v g.vertices ∙ s.vertices v ∙ sym (among-in_order v h.vertices))

pub returns : goal.returns
returns c = λ g h s i.
    let vs = same_order g h s i in
    let suffice = list_all (λ u. list_all (λ v. has_letters One (rights_where (λ right. s.triples u right v i))) vs) vs in
    version_line (if nat_le (length vs) (limit_of One) && suffice then One else Two)
    ++ (flat_map vertex_line vs ++ flat_map (λ u. flat_map (λ v. edge_line u v (rights_where (λ right. s.triples u right v i))) vs) vs)
