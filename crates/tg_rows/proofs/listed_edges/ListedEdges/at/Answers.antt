use Rattle.std.proofs.Common.{◌≡◌, Some, slice_get, sym, ap, ◌∙◌}
use Rattle.tg_rows.specs.EdgeLists.{named, names_of}
use Rattle.tg_rows.proofs.EdgeLists.{named-is}
use Rattle.std.specs.Option.{option_map}
use Rattle.std.proofs.lemmas.Option.{slice_get-map}
use Rattle.tg_rows.proofs.EdgeLists.{read_by_get}
use Rattle.tg_rows.proofs.listed_edges.ListedEdges.at.Goals as goal

pub returns : goal.returns
returns c =
    let names = names_of c.self.inside.targets in
    let es = c.self.inside.edges.items in
    let found : slice_get es c.args.place ≡ Some c.in_ok-edge.edge =
    sym (c.copied.ensures ∙ read_by_get c.deref.result.now c.args.place c.get.result c.get.ensures.lookup ∙ ap (λ xs. slice_get xs c.args.place) c.deref.ensures.value) ∙ c.in_ok-edge.was in
    sym (
    ap (λ xs. slice_get xs c.args.place) (sym c.self.view_is)
    ∙ slice_get-map (named names) es c.args.place
    ∙ ap (option_map (named names)) found
    ∙ ap Some (named-is names c.in_ok-edge.edge c.in_ok-name.name c.label.result c.number.result (sym c.at.ensures ∙ c.in_ok-name.was) (sym c.number.ensures) (sym c.label.ensures)))
