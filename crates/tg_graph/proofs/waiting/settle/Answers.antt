use Rattle.std.proofs.Common.{◌≡◌, ◌<◌, [], List, sym, ap, subst, ◌∙◌, length, get_or, set, arith, refl}
use Rattle.std.specs.Map.{keys_of}
use Rattle.std.proofs.lemmas.List.{length-map, get_or_read_under}
use Rattle.std.proofs.lemmas.Option.{slice_get-get_or}
use Rattle.indexmap.specs.Layout.{set_value_at, length-set_value_at}
use Rattle.tg_names.specs.declared.right_sets.Rights.{Rights}
use Rattle.tg_rows.specs.Rows.{Entries}
use Rattle.tg_graph.specs.Waiting.{graph_built, MayWait, HasMoved}
use Rattle.tg_graph.proofs.BuiltGraphs.{built-settled, may_wait-set, may_wait-same}
use Rattle.tg_graph.proofs.waiting.settle.Goals as goal

pub returns-clause-same : goal.returns-clause-same
returns-clause-same c =
    let es = c.args.graph.now in
    let names = keys_of es in
    let waits = c.args.waits.now.items in
    let source = c.args.source in
    let one : c.index.result.now ≡ get_or waits source [] = get_or_read_under waits source (length waits) c.index.result.now [] c.index.ensures c.requires.within refl in
    let two : c.index-2.result.now ≡ get_or waits source [] = get_or_read_under waits source (length waits) c.index-2.result.now [] c.index-2.ensures c.requires.within refl in
    let some : 0 < length (get_or waits source []) = omega (arith, c.if-len-eq0.false, c.len.ensures.value, ap length one) in
    let within : source < length names = omega (arith, (c.requires.may_wait source some).0, length-map es (λ e. e.0)) in
    let moved : HasMoved names (get_or waits source []) c.in_ok-row.row = subst (λ l. HasMoved names l c.in_ok-row.row) two c.in_ok-row.ensures.moved in
    (λ i. graph_built (c.in_ok-set_row.ensures.put i, set waits source (c.none.ensures i)))
    ∙ built-settled es source (get_or names source []) c.in_ok-row.row c.len-2.ensures.graph.apart (slice_get-get_or names source [] within) waits some moved

pub returns-clause-may_wait : goal.returns-clause-may_wait
returns-clause-may_wait c =
    let es = c.args.graph.now in
    let waits = c.args.waits.now.items in
    let source = c.args.source in
    let one : c.index.result.now ≡ get_or waits source [] = get_or_read_under waits source (length waits) c.index.result.now [] c.index.ensures c.requires.within refl in
    let some : 0 < length (get_or waits source []) = omega (arith, c.if-len-eq0.false, c.len.ensures.value, ap length one) in
    let none : MayWait (es, set waits source []) = may_wait-set es waits source [] (c.requires.may_wait source some).0 (λ h. absurd (omega arith)) c.requires.may_wait in
    subst (λ (b : Entries × List (List Rights)). MayWait b) (λ i. (sym c.in_ok-set_row.ensures.put i, set waits source (sym c.none.ensures i)))
    (may_wait-same es (set_value_at es source c.in_ok-row.row) (set waits source []) (length-set_value_at es source c.in_ok-row.row) none)
