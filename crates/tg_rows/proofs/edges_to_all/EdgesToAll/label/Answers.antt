use Rattle.std.proofs.Common.{◌<◌, ◌∙◌, sym, ap, arith, length, List, ℕ, refl}
use Rattle.std.specs.Arc.{arc_value}
use Rattle.std.proofs.lemmas.List.{get_or_read_under}
use Rattle.tg_names.specs.declared.right_sets.Rights.{Rights}
use Rattle.tg_rows.proofs.LabelsToAll.{labelled-length, labelled-at}
use Rattle.tg_rows.proofs.edges_to_all.EdgesToAll.label.Goals as goal

pub index-requires : goal.index-requires
index-requires c =
    omega (arith, labelled-length (arc_value c.self.inside.names).items c.self.inside.labels.items c.args.self.now c.self.view_is c.self.invariant, c.requires)

pub returns : goal.returns
returns c d =
    let names = (arc_value c.self.inside.names).items in
    let labels = c.self.inside.labels.items in
    let edges = c.args.self.now in
    let place = c.args.place in
    let as_many = labelled-length names labels edges c.self.view_is c.self.invariant in
    let within : place < length labels = omega (arith, as_many, c.requires) in
    get_or_read_under labels place (length labels) c.index.result.now d.1 c.index.ensures within refl
    ∙ sym (ap (λ (e : List ℕ × Rights). e.1) (labelled-at names labels edges c.self.view_is c.self.invariant place d c.requires))
