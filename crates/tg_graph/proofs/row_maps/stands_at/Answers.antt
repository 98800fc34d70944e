use Rattle.std.proofs.Common.{sym, ap, ◌∙◌, Some}
use Rattle.std.specs.Option.{option_map}
use Rattle.std.proofs.lemmas.Option.{slice_get-map}
use Rattle.tg_rows.proofs.Rows.{same_bytes}
use Rattle.tg_graph.proofs.row_maps.stands_at.Goals as goal

pub returns-in-Some-clause-stands : goal.returns-in-Some-clause-stands
returns-in-Some-clause-stands c t =
    slice_get-map (λ e. e.0) c.args.rows.now.entries c.args.place
    ∙ ap (option_map (λ e. e.0)) (sym c.in-Some.ensures.entry)
    ∙ ap Some (same_bytes _ _ (sym c.eq.ensures ∙ t))
