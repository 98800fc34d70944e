use Rattle.std.proofs.Common.{◌∙◌, sym, ap, subst, List, MatchOption, unwrap_or}
use Rattle.tg_rows.specs.declared.listed_edges.Edge.{Edge}
use Rattle.tg_rows.specs.EdgeLists.{names_of, NoneHas, HasLabel}
use Rattle.tg_rows.specs.Rows.{label_in}
use Rattle.tg_rows.proofs.Places.{IsUp}
use Rattle.tg_rows.proofs.RisingNames.{label_told}
use Rattle.tg_rows.proofs.listed_edges.ListedEdges.label_in_few.Goals as goal

pub returns : goal.returns
returns c =
    let es = c.self.inside.edges.items in
    let number = c.in_ok-number.number in
    let found = c.label_with_number-label.result in
    let told = subst (λ (edges : List Edge). MatchOption found (NoneHas edges number) (HasLabel edges number)) c.as_slice.ensures.value c.label_with_number-label.ensures in
    c.unwrap_or.ensures
    ∙ ap (unwrap_or found) (λ i. record { 0 = c.empty.ensures tt i })
    ∙ label_told (names_of c.self.inside.targets) c.in_ok-number.ensures.rise c.args.target number c.in_ok-number.ensures.number es c.self.invariant
    (subst IsUp (sym c.self.view_is) c.requires) found told
    ∙ ap (λ row. label_in row c.args.target) c.self.view_is
