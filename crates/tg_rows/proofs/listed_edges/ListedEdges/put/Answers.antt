use Rattle.std.proofs.Common.{◌≡◌, ◌<◌, length, sym, ap, ◌∙◌, subst, arith}
use Rattle.std.specs.List.{insert}
use Rattle.tg_rows.specs.EdgeLists.{number_of, named, edges_of, names_of, AreWithin}
use Rattle.tg_rows.proofs.EdgeLists.{each-insert, edges-extends, within-extends, named-is}
use Rattle.indexmap.proofs.SetLemmas.{map-insert}
use Rattle.std.proofs.lemmas.Option.{slice_get_within}
use Rattle.tg_rows.proofs.Rows.{on_err_from}
use Rattle.tg_rows.proofs.listed_edges.ListedEdges.put.Goals as goal

pub returns-in_err-number-clause-err : goal.returns-in_err-number-clause-err
returns-in_err-number-clause-err c = on_err_from c.from_residual.result (edges-extends _ _ c.number_for.ensures.kept c.self.inside.edges.items c.self.invariant ∙ c.self.view_is)

pub invariant_of-self-then-number-ge-MOST_NUMBERS : goal.invariant_of-self-then-number-ge-MOST_NUMBERS
invariant_of-self-then-number-ge-MOST_NUMBERS c = within-extends _ _ c.number_for.ensures.kept c.self.inside.edges.items c.self.invariant

pub returns-then-number-ge-MOST_NUMBERS-clause-err : goal.returns-then-number-ge-MOST_NUMBERS-clause-err
returns-then-number-ge-MOST_NUMBERS-clause-err c = edges-extends _ _ c.number_for.ensures.kept c.self.inside.edges.items c.self.invariant ∙ c.self.view_is

pub invariant_of-self-in_err-insert_at : goal.invariant_of-self-in_err-insert_at
invariant_of-self-in_err-insert_at c =
    let names = names_of c.number_for.new.self in
    subst (AreWithin names) (sym c.in_err-insert_at.ensures.items) (within-extends _ _ c.number_for.ensures.kept c.self.inside.edges.items c.self.invariant)

pub returns-in_err-insert_at-clause-err : goal.returns-in_err-insert_at-clause-err
returns-in_err-insert_at-clause-err c =
    let names = names_of c.number_for.new.self in
    on_err_from c.from_residual-in_err-insert_at.result (ap (edges_of names) c.in_err-insert_at.ensures.items ∙ edges-extends _ _ c.number_for.ensures.kept c.self.inside.edges.items c.self.invariant ∙ c.self.view_is)

pub invariant_of-self-2 : goal.invariant_of-self-2
invariant_of-self-2 c =
    let names = names_of c.number_for.new.self in
    subst (AreWithin names) (sym c.in_ok-insert_at.ensures.items)
    (each-insert (λ e. number_of e < length names) c.self.inside.edges.items c.args.place c.new.result
    (within-extends _ _ c.number_for.ensures.kept c.self.inside.edges.items c.self.invariant)
    (omega (arith, c.new.ensures.number, slice_get_within names c.in_ok-number.number c.args.edge.0 c.in_ok-number.ensures.found)))

pub returns-clause-put : goal.returns-clause-put
returns-clause-put c =
    let names = names_of c.number_for.new.self in
    let es = c.self.inside.edges.items in
    let same : edges_of names es ≡ c.args.self.now = edges-extends _ _ c.number_for.ensures.kept es c.self.invariant ∙ c.self.view_is in
    ap (edges_of names) c.in_ok-insert_at.ensures.items
    ∙ map-insert (named names) es c.args.place c.new.result
    ∙ (λ i. insert (same i) c.args.place (named-is names c.new.result c.args.edge.0 c.args.edge.1 c.in_ok-number.number c.in_ok-number.ensures.found c.new.ensures.number c.new.ensures.label i))
