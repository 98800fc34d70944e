use Rattle.std.proofs.Common.{◌≡◌, ◌<◌, ◌∙◌, [], ◌∷◌, ◌++◌, sym, ap, arith, length, get_or, Vec, Global}
use Rattle.std.specs.Arc.{arc_value}
use Rattle.std.specs.List.{zip}
use Rattle.tg_names.specs.Names.{Name}
use Rattle.tg_rows.proofs.Rows.{same_bytes}
use Rattle.tg_rows.proofs.LabelsToAll.{zip-push}
use Rattle.tg_rows.proofs.edges_to_all.EdgesToAll.push.Goals as goal

pub returns-in_ok-push-in-Some-clause-pushed : goal.returns-in_ok-push-in-Some-clause-pushed
returns-in_ok-push-in-Some-clause-pushed c =
    let names = (arc_value c.self.inside.names).items in
    let labels = c.self.inside.labels.items in
    let found = c.in-Some.ensures.lookup.3 in
    let names_are : c.deref-2.result.now ≡ names = c.deref-2.ensures.value ∙ ap (λ (v : Vec Name Global). v.items) c.deref.ensures in
    let long : c.len.result ≡ length labels = omega (arith, c.len.ensures) in
    let within : length labels < length names = omega (arith, found.0, long, ap length names_are) in
    let next : get_or names (length labels) [] ≡ c.args.target =
    (λ i. get_or (sym names_are i) (sym long i) []) ∙ sym (found.1 []) ∙ same_bytes c.in-Some.name.now c.args.target (sym c.eq.ensures ∙ c.if-eq.true) in
    ap (zip names) c.in_ok-push-in-Some.ensures.items
    ∙ zip-push names labels c.args.label [] within
    ∙ (λ i. c.self.view_is i ++ (next i, c.args.label) ∷ [])
