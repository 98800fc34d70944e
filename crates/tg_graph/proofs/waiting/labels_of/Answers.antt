use Rattle.std.proofs.Common.{◌+◌, ◌<◌, sym, ap, subst, ◌∙◌, length, arith}
use Rattle.std.specs.Map.{keys_of}
use Rattle.std.proofs.lemmas.List.{length-map, length-set, length-replicate}
use Rattle.std.proofs.lemmas.Option.{slice_get_within}
use Rattle.tg_names.specs.Sets.{nothing}
use Rattle.tg_rows.specs.Rows.{row_number}
use Rattle.tg_graph.proofs.Positions.{at-position}
use Rattle.tg_graph.proofs.WaitingLabels.{IsCopied, row-number, edge-named, copied-none, copied-one, copied-all}
use Rattle.tg_graph.proofs.waiting.labels_of.Goals as goal

pub loop-place-init : goal.loop-place-init
loop-place-init c =
    let es = c.args.graph.now in
    let row = row_number es c.args.source in
    record {
      for_each = ap length c.in-Ok.ensures ∙ length-replicate c.len.result nothing ∙ c.len.ensures.value;
      copied = subst (λ l. IsCopied row (keys_of es) l 0) (sym c.in-Ok.ensures) (copied-none row (row-number es c.args.source c.len.ensures.graph) (keys_of es) c.len.result);
    }

pub set-requires-clause-place : goal.set-requires-clause-place
set-requires-clause-place c =
    let es = c.args.graph.now in
    omega (arith, slice_get_within (keys_of es) c.in_ok-position.field-0 c.in_ok-name.name (at-position (keys_of es) c.in_ok-name.name c.in_ok-position.field-0 (sym c.in_ok-position.ensures)), length-map es (λ e. e.0), c.loop-place.invariant.for_each)

pub set-requires-clause-named : goal.set-requires-clause-named
set-requires-clause-named c =
    let es = c.args.graph.now in
    edge-named (row_number es c.args.source) (row-number es c.args.source c.len.ensures.graph) c.loop-place.place c.in_ok-name.name c.in_ok-name.label (sym c.in_ok-name.ensures)

pub loop-place-preserved : goal.loop-place-preserved
loop-place-preserved c =
    let es = c.args.graph.now in
    let row = row_number es c.args.source in
    let labels = c.loop-place.labels in
    let target = c.in_ok-position.field-0 in
    let at = at-position (keys_of es) c.in_ok-name.name target (sym c.in_ok-position.ensures) in
    let within : target < length labels = omega (arith, slice_get_within (keys_of es) target c.in_ok-name.name at, length-map es (λ e. e.0), c.loop-place.invariant.for_each) in
    record {
      for_each = ap length c.set.ensures ∙ length-set labels target c.in_ok-name.label ∙ c.loop-place.invariant.for_each;
      copied = subst (λ l. IsCopied row (keys_of es) l (c.loop-place.place + 1)) (sym c.set.ensures)
          (copied-one row (row-number es c.args.source c.len.ensures.graph) (keys_of es) labels c.loop-place.place target c.in_ok-name.name c.in_ok-name.label c.len.ensures.graph.apart at within (sym c.in_ok-name.ensures) c.loop-place.invariant.copied);
    }

pub returns-clause-labels : goal.returns-clause-labels
returns-clause-labels c v =
    let es = c.args.graph.now in
    let row = row_number es c.args.source in
    copied-all row (row-number es c.args.source c.len.ensures.graph) (keys_of es) c.loop-place.labels c.loop-place.place (omega (arith, c.loop-place-test.false, c.row_len-place-end.ensures)) c.loop-place.invariant.copied v

pub returns-clause-for_each : goal.returns-clause-for_each
returns-clause-for_each c = c.loop-place.invariant.for_each
