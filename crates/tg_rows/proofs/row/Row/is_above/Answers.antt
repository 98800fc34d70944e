use Rattle.std.proofs.Common.{◌-◌, sym, ap, subst, ◌∙◌, length, arith}
use Rattle.std.specs.Ordering.{is_lt}
use Rattle.tg_rows.specs.Rows.{AreBelow}
use Rattle.tg_rows.proofs.Places.{below_from_last}
use Rattle.tg_rows.proofs.row.Row.is_above.Goals as goal

pub returns : goal.returns
returns c t =
    subst (λ row. AreBelow row c.args.y c.args.place) c.self.view_is
    (below_from_last c.self.inside.edges c.args.y (c.args.place - 1) c.target.result c.self.invariant.sorted
    (omega (arith, ap length c.self.view_is)) c.target.ensures c.args.place (omega arith) (sym (c.is_lt.ensures ∙ ap is_lt c.cmp.ensures) ∙ t))
