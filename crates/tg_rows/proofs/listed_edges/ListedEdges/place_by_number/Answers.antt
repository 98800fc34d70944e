use Rattle.std.proofs.Common.{List, subst, sym, IfSome, IfErr}
use Rattle.tg_rows.specs.declared.listed_edges.Edge.{Edge}
use Rattle.tg_rows.specs.Rows.{Edges, IsGapFor}
use Rattle.tg_rows.specs.EdgeLists.{names_of, IsNumberGap}
use Rattle.tg_rows.proofs.Places.{IsUp}
use Rattle.tg_rows.proofs.RisingNames.{number_gaps}
use Rattle.tg_rows.proofs.listed_edges.ListedEdges.place_by_number.Goals as goal

pub returns-clause-absent : goal.returns-clause-absent
returns-clause-absent c =
    let es = c.self.inside.edges.items in
    subst (λ (row : Edges). IfSome c.place_of_number.result (λ place. IfErr place (IsGapFor row c.args.target))) c.self.view_is
    (number_gaps (names_of c.self.inside.targets) c.in_ok-number.ensures.rise es c.self.invariant c.args.target c.in_ok-number.number c.in_ok-number.ensures.number
    (subst IsUp (sym c.self.view_is) c.requires) c.place_of_number.result
    (subst (λ (edges : List Edge). IfSome c.place_of_number.result (λ place. IfErr place (IsNumberGap edges c.in_ok-number.number))) c.as_slice.ensures.value c.place_of_number.ensures.absent))
