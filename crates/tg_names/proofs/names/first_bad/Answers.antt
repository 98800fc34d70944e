use Rattle.std.proofs.Common.{sym, ◌∙◌}
use Rattle.tg_names.proofs.NameLaws.{all_fit-none}
use Rattle.tg_names.proofs.names.first_bad.Goals as goal

pub returns-then-all_fit : goal.returns-then-all_fit
returns-then-all_fit c = sym (all_fit-none c.args.bytes.now (sym c.fits_at.ensures ∙ c.if-fits_at.true) (c.all_fit.ensures c.if-all_fit.true))
