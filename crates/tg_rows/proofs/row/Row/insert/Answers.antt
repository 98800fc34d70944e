use Rattle.std.proofs.Common.{sym, ap, subst, ◌∙◌, Some, bytes_eq, cond}
use Rattle.std.specs.Map.{lookup}
use Rattle.tg_rows.specs.Rows.{IsRow, IsGapFor}
use Rattle.tg_rows.proofs.Places.{row-insert, puts-insert}
use Rattle.tg_rows.proofs.row.Row.insert.Goals as goal

pub invariant_of-self-2 : goal.invariant_of-self-2
invariant_of-self-2 c = subst IsRow (sym c.in_ok-insert.ensures.put) (row-insert c.self.inside.edges c.args.y c.args.label c.args.place (subst (λ row. IsGapFor row c.args.y c.args.place) (sym c.self.view_is) c.requires.place) c.requires.label c.self.invariant)

pub returns-clause-row : goal.returns-clause-row
returns-clause-row c = subst IsRow (sym c.in_ok-insert.ensures.put) (row-insert c.self.inside.edges c.args.y c.args.label c.args.place (subst (λ row. IsGapFor row c.args.y c.args.place) (sym c.self.view_is) c.requires.place) c.requires.label c.self.invariant)

pub returns-clause-puts : goal.returns-clause-puts
returns-clause-puts c v =
    ap (lookup (bytes_eq v)) c.in_ok-insert.ensures.put
    ∙ puts-insert c.self.inside.edges c.args.y c.args.place (subst (λ row. IsGapFor row c.args.y c.args.place) (sym c.self.view_is) c.requires.place) c.args.label v
    ∙ ap (λ row. cond (bytes_eq c.args.y v) (Some c.args.label) (lookup (bytes_eq v) row)) c.self.view_is
