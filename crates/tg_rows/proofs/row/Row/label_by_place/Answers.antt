use Rattle.std.proofs.Common.{sym, ap, ◌∙◌, unwrap_or}
use Rattle.tg_names.specs.Sets.{nothing}
use Rattle.tg_rows.proofs.Places.{gap-lookup}
use Rattle.tg_rows.proofs.row.Row.label_by_place.Goals as goal

pub returns-in-Err : goal.returns-in-Err
returns-in-Err c = (λ i. record { 0 = c.empty.ensures tt i }) ∙ sym (ap (λ o. unwrap_or o nothing) (gap-lookup c.args.self.now c.args.y _ c.in-Err.ensures.absent))
