use Rattle.std.proofs.Common.{◌++◌, ◌∷◌, [], get_or, take, sym, ap, ◌∙◌}
use Rattle.std.specs.Prelude.{slice_get}
use Rattle.std.proofs.lemmas.List.{take_more}
use Rattle.std.proofs.lemmas.List.Elements.{filter_map-append}
use Rattle.tg_graph.specs.Drafts.{entries_at}
use Rattle.tg_graph.proofs.row_maps.taken_at.Goals as goal

pub loop-place-preserved : goal.loop-place-preserved
loop-place-preserved c =
    let es = c.args.rows.now.entries in
    let places = c.args.places.now in
    let i = c.loop-place.place-index in
    c.in_ok-take_at.ensures
    ∙ ap (λ rows. rows ++ entries_at es (get_or places i 0 ∷ [])) c.loop-place.invariant
    ∙ sym (ap (entries_at es) (take_more places i 0 c.loop-place-test.true) ∙ filter_map-append (slice_get es) (take i places) (get_or places i 0 ∷ []))
