use Rattle.std.proofs.Common.{◌≡◌, ◌<◌, sym, ap, subst, ◌∙◌, length, set, arith, false}
use Rattle.std.specs.Map.{keys_of}
use Rattle.std.proofs.lemmas.Bool.{not-true}
use Rattle.std.proofs.lemmas.Bool.Decides.{nat_tests}
use Rattle.tg_names.specs.declared.right_sets.Rights.{Rights}
use Rattle.tg_rows.specs.Rows.{Adds}
use Rattle.tg_names.specs.Sets.{nothing, is_empty_set}
use Rattle.tg_graph.specs.Waiting.{IsMoving}
use Rattle.tg_graph.proofs.WaitingLabels.{moving-one}
use Rattle.tg_graph.proofs.waiting.move_label.Goals as goal

pub put-requires : goal.put-requires
put-requires c =
    let full : is_empty_set c.at.result ≡ false = ap (λ (l : Rights). is_empty_set l) c.at.ensures.value ∙ not-true _ (sym c.has.ensures.value ∙ c.if-not-has.false) in
    let some : 0 < c.at.result.0 = grind (arith, nat_tests) in
    record { some = some; named = c.at.ensures.named }

pub returns-clause-moved : goal.returns-clause-moved
returns-clause-moved c labels m =
    let names = keys_of c.args.graph.now in
    let left = c.args.left.now in
    let within : c.args.place < length left = c.has.ensures.within c.if-not-has.false in
    let set_is : c.set.new.self ≡ set left c.args.place nothing = c.set.ensures ∙ ap (set left c.args.place) (λ i. record { 0 = c.empty.ensures tt i }) in
    subst (IsMoving names labels c.put.new.row) (sym set_is)
    (moving-one names labels c.args.row.now left m c.put.new.row c.args.place c.in-Some.name c.len.ensures.graph.apart (sym c.in-Some.ensures) within
    (subst (λ l. Adds c.args.row.now c.put.new.row c.in-Some.name l) c.at.ensures.value c.in_ok-put.ensures.adds))
