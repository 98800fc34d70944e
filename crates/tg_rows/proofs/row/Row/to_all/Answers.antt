use Rattle.tg_rows.proofs.Rows.{row_none}
use Rattle.tg_rows.proofs.row.Row.to_all.Goals as goal

pub invariant_of-result : goal.invariant_of-result
invariant_of-result c = row_none _ c.in_ok-to_all.ensures
