use Rattle.std.proofs.Common.{◌≡◌, ◌∙◌, sym, ap, arith, get_or, set, List, ℕ}
use Rattle.std.specs.Arc.{arc_value}
use Rattle.tg_names.specs.declared.right_sets.Rights.{Rights}
use Rattle.tg_rows.proofs.LabelsToAll.{labelled-length, labelled-at, zip-set}
use Rattle.tg_rows.proofs.edges_to_all.EdgesToAll.set_label.Goals as goal

pub index_mut-requires : goal.index_mut-requires
index_mut-requires c =
    omega (arith, labelled-length (arc_value c.self.inside.names).items c.self.inside.labels.items c.args.self.now c.self.view_is c.self.invariant, c.requires)

pub returns : goal.returns
returns c d =
    let names = (arc_value c.self.inside.names).items in
    let labels = c.self.inside.labels.items in
    let place = c.args.place in
    let target : get_or names place d.0 ≡ (get_or c.args.self.now place d).0 =
    sym (ap (λ (e : List ℕ × Rights). e.0) (labelled-at names labels c.args.self.now c.self.view_is c.self.invariant place d c.requires)) in
    zip-set names labels place c.args.label d.0
    ∙ (λ i. set (c.self.view_is i) place (target i, c.args.label))
