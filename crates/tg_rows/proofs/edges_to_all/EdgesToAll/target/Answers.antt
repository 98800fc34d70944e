use Rattle.std.proofs.Common.{◌≡◌, ◌<◌, ◌∙◌, sym, ap, arith, length, get_or, List, ℕ, Vec, Global, refl}
use Rattle.std.specs.Arc.{arc_value}
use Rattle.std.proofs.lemmas.List.{get_or_read_under}
use Rattle.tg_names.specs.declared.right_sets.Rights.{Rights}
use Rattle.tg_names.specs.Names.{Name}
use Rattle.tg_rows.proofs.LabelsToAll.{labelled-length, labelled-at}
use Rattle.tg_rows.proofs.edges_to_all.EdgesToAll.target.Goals as goal

pub index-requires : goal.index-requires
index-requires c =
    let names = (arc_value c.self.inside.names).items in
    let labels = c.self.inside.labels.items in
    let as_many = labelled-length names labels c.args.self.now c.self.view_is c.self.invariant in
    omega (arith, as_many, c.self.invariant, c.requires, ap (λ (v : Vec Name Global). length v.items) c.deref.ensures)

pub returns : goal.returns
returns c d =
    let names = (arc_value c.self.inside.names).items in
    let labels = c.self.inside.labels.items in
    let edges = c.args.self.now in
    let place = c.args.place in
    let name = c.index.result.now in
    let as_many = labelled-length names labels edges c.self.view_is c.self.invariant in
    let within : place < length names = omega (arith, as_many, c.self.invariant, c.requires) in
    let read : name ≡ get_or names place name = c.index.ensures ∙ ap (λ (v : Vec Name Global). get_or v.items place name) c.deref.ensures in
    get_or_read_under names place (length names) name d.0 read within refl
    ∙ sym (ap (λ (e : List ℕ × Rights). e.0) (labelled-at names labels edges c.self.view_is c.self.invariant place d c.requires))
