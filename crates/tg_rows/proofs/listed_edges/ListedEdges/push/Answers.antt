use Rattle.std.proofs.Common.{◌∷◌, ◌++◌, [], ap, ◌∙◌}
use Rattle.std.proofs.lemmas.List.{map-append}
use Rattle.tg_rows.specs.EdgeLists.{named, edges_of, names_of}
use Rattle.tg_rows.proofs.EdgeLists.{named-is}
use Rattle.tg_rows.proofs.listed_edges.ListedEdges.push.Goals as goal

pub returns-clause-pushed : goal.returns-clause-pushed
returns-clause-pushed c =
    let names = names_of c.self.inside.targets in
    let es = c.self.inside.edges.items in
    ap (edges_of names) c.in_ok-push.ensures.items
    ∙ map-append (named names) es (c.new.result ∷ [])
    ∙ (λ i. c.self.view_is i ++ named-is names c.new.result c.args.target c.args.label c.args.number (c.is_at.ensures c.if-not-is_at.false) c.new.ensures.number c.new.ensures.label i ∷ [])
