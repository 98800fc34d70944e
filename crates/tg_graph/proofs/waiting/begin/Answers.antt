use Rattle.std.proofs.Common.{◌≡◌, ◌<◌, [], sym, ap, ◌∙◌, length, get_or, arith, refl}
use Rattle.std.specs.Map.{keys_of}
use Rattle.std.proofs.lemmas.List.{length-map, get_or_read_under, nil_from_length}
use Rattle.std.proofs.lemmas.Option.{slice_get-get_or}
use Rattle.tg_graph.proofs.BuiltGraphs.{built-same, built-begun}
use Rattle.tg_graph.proofs.WaitingLabels.{label-row}
use Rattle.tg_graph.proofs.waiting.begin.Goals as goal

pub returns-in-Some-clause-same : goal.returns-in-Some-clause-same
returns-in-Some-clause-same c =
    let es = c.args.graph.now in
    let names = keys_of es in
    let waits = c.make_room.new.waits.items in
    let source = c.args.source in
    let room : source < length waits = omega (arith, c.requires.within, c.in-Ok.ensures.room) in
    let one : c.index.result.now ≡ get_or waits source [] = get_or_read_under waits source (length waits) c.index.result.now [] c.index.ensures room refl in
    let idle : get_or waits source [] ≡ [] = nil_from_length (get_or waits source []) (omega (arith, c.if-len-gt0.false, c.len-2.ensures.value, ap length one)) in
    let within : source < length names = omega (arith, c.requires.within, length-map es (λ e. e.0)) in
    let here = slice_get-get_or names source [] within in
    built-begun es waits source (get_or names source []) c.in-Some.labels c.len.ensures.graph.apart here room idle
    (λ v. c.in-Some.ensures.labels v ∙ sym (label-row es source (get_or names source []) v c.len.ensures.graph.apart here))
    ∙ built-same es c.args.waits.now.items waits c.in-Ok.ensures.same
