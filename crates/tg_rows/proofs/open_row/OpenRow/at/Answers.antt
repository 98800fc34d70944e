use Rattle.std.proofs.Common.{◌≡◌, Some, slice_get, sym, ap, ◌∙◌}
use Rattle.tg_rows.specs.EdgeLists.{named}
use Rattle.tg_rows.proofs.EdgeLists.{named-is, read_by_get}
use Rattle.std.specs.Option.{option_map}
use Rattle.std.proofs.lemmas.Option.{slice_get-map}
use Rattle.tg_rows.proofs.open_row.OpenRow.at.Goals as goal

pub returns : goal.returns
returns c =
    let names = c.self.inside.names.now in
    let es = c.self.inside.edges.now in
    let found : slice_get es c.args.place ≡ Some c.in_ok-edge.edge =
    sym (c.copied.ensures ∙ read_by_get es c.args.place c.get.result c.get.ensures.lookup) ∙ c.in_ok-edge.was in
    let target : slice_get names c.number.result ≡ Some c.in_ok-name.name =
    sym (c.copied-2.ensures ∙ read_by_get names c.number.result c.get-2.result c.get-2.ensures.lookup) ∙ c.in_ok-name.was in
    sym (
    ap (λ xs. slice_get xs c.args.place) (sym c.self.view_is)
    ∙ slice_get-map (named names) es c.args.place
    ∙ ap (option_map (named names)) found
    ∙ ap Some (named-is names c.in_ok-edge.edge c.in_ok-name.name c.label.result c.number.result target (sym c.number.ensures) (sym c.label.ensures)))
