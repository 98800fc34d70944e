use Rattle.std.proofs.Common.{◌≡◌, ◌∙◌}
use Rattle.tg_rows.specs.EdgeLists.{names_of, edges_of}
use Rattle.tg_rows.proofs.EdgeLists.{numbered-edges}
use Rattle.tg_rows.proofs.listed_edges.ListedEdges.moved_to.Goals as goal

pub returns-in_ok-edges-in-Some : goal.returns-in_ok-edges-in-Some
returns-in_ok-edges-in-Some c =
    let shared = c.in-Some.shared.now in
    let edges = c.self.inside.edges.items in
    let names : names_of c.new-targets.result ≡ shared = c.new-targets.ensures ∙ c.in_ok-clone-in-Some.ensures.cases in
    let items : c.in_ok-edges-in-Some.edges.items ≡ edges = c.in_ok-edges-in-Some.ensures.items ∙ c.as_slice-in-Some.ensures.value in
    let same : edges_of shared edges ≡ edges_of (names_of c.self.inside.targets) edges = numbered-edges (names_of c.self.inside.targets) shared edges (rw c.as_slice.ensures.value at c.are_numbered.ensures c.if-are_numbered.true) in
    c.of_parts.ensures ∙ (λ i. edges_of (names i) (items i)) ∙ same ∙ c.self.view_is
