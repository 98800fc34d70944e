use Rattle.std.proofs.Common.{◌≡◌, ◌<◌, [], length, List, ℕ, get_or, set, sym, ap, ◌∙◌, arith}
use Rattle.tg_rows.specs.EdgeLists.{number_of, named, names_of}
use Rattle.std.proofs.lemmas.List.{map-set, length-map, get_or-map}
use Rattle.tg_names.specs.declared.right_sets.Rights.{Rights}
use Rattle.tg_rows.specs.Rows.{Edges}
use Rattle.tg_rows.proofs.listed_edges.ListedEdges.set_label.Goals as goal

pub returns : goal.returns
returns c d =
    let names = names_of c.self.inside.targets in
    let es = c.self.inside.edges.items in
    let within : c.args.place < length es = omega (arith, c.requires, sym (ap length c.self.view_is), length-map es (named names)) in
    let target : (named names c.with_label.result).0 ≡ (get_or c.args.self.now c.args.place d).0 =
    ap (λ n. get_or names n []) (c.with_label.ensures.number ∙ ap number_of c.index.ensures)
    ∙ ap (λ (e : List ℕ × Rights). e.0) (sym (get_or-map (named names) es c.args.place c.index.result.now d within) ∙ ap (λ (l : Edges). get_or l c.args.place d) c.self.view_is) in
    map-set (named names) es c.args.place c.with_label.result
    ∙ (λ i. set (c.self.view_is i) c.args.place (target i, c.with_label.ensures.label i))
