use Rattle.std.proofs.Common.{◌≡◌, ◌<◌, ◌∙◌, [], ◌∷◌, sym, ap, arith, length, length-append, get_or, refl}
use Rattle.std.specs.List.{zip}
use Rattle.std.proofs.lemmas.Bool.{not-false}
use Rattle.std.proofs.lemmas.List.{get_or_read_under}
use Rattle.tg_names.specs.Sets.{nothing}
use Rattle.tg_rows.proofs.Rows.{same_bytes}
use Rattle.tg_rows.proofs.LabelsToAll.{zip-nil, labelled_more}
use Rattle.tg_rows.proofs.edges_to_all.labels_to_all.Goals as goal

pub loop-place-init : goal.loop-place-init
loop-place-init c = record { same = zip-nil c.args.names.now c.in-Ok.labels.items c.in-Ok.ensures.items; long = ap length c.in-Ok.ensures.items }

pub loop-place-preserved : goal.loop-place-preserved
loop-place-preserved c =
    let names = c.args.names.now in
    let list = c.args.list.now in
    let place = c.loop-place.place in
    let labels = c.loop-place.labels.items in
    let name = c.index-names-place.result in
    let in_names : place < length names = omega (arith, c.loop-place-test.true) in
    let in_list : place < length list = omega (arith, c.loop-place-test.true, c.len.ensures, c.if-len-names.false) in
    let same : c.target.result ≡ name = same_bytes c.target.result name (not-false _ (sym c.if-ne.ensures)) in
    let target : get_or names place [] ≡ (get_or list place ([], nothing)).0 =
    sym (get_or_read_under names place (length names) name [] c.index-names-place.is in_names refl) ∙ sym same ∙ c.target.ensures ([], nothing) in record {
      same = ap (zip names) c.in-Ok-push.ensures.items
          ∙ labelled_more names labels list place c.label.result ([], nothing) c.loop-place.invariant.long in_names in_list target (c.label.ensures ([], nothing)) c.loop-place.invariant.same;
      long = ap length c.in-Ok-push.ensures.items ∙ omega (arith, length-append labels (c.label.result ∷ []), c.loop-place.invariant.long);
    }
