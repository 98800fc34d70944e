use Rattle.std.proofs.Common.{ap, ◌∙◌}
use Rattle.std.specs.List.{remove}
use Rattle.tg_rows.specs.EdgeLists.{named, edges_of, names_of}
use Rattle.indexmap.proofs.SetLemmas.{map-remove}
use Rattle.tg_rows.proofs.listed_edges.ListedEdges.remove.Goals as goal

pub returns : goal.returns
returns c =
    let names = names_of c.self.inside.targets in
    ap (edges_of names) c.remove.ensures.items
    ∙ map-remove (named names) c.self.inside.edges.items c.args.place
    ∙ ap (λ es. remove es c.args.place) c.self.view_is
