use Rattle.std.proofs.Common.{sym, ap, subst, ◌∙◌, length, arith}
use Rattle.std.specs.Ordering.{is_gt}
use Rattle.tg_rows.specs.Rows.{AreAbove}
use Rattle.tg_rows.proofs.Places.{above_from_first}
use Rattle.tg_rows.proofs.row.Row.is_below.Goals as goal

pub returns : goal.returns
returns c t =
    subst (λ row. AreAbove row c.args.y c.args.place) c.self.view_is
    (above_from_first c.self.inside.edges c.args.y c.args.place c.target.result c.self.invariant.sorted
    (omega (arith, ap length c.self.view_is)) c.target.ensures (sym (c.is_gt.ensures ∙ ap is_gt c.cmp.ensures) ∙ t))
