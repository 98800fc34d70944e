use Rattle.tg_reports.proofs.DerivedTexts.{derivations_below_give, read_derivations_below_give}
use Rattle.tg_reports.proofs.laws.derivations_below_give_the_right.Goals as goal

pub returns-clause-small : goal.returns-clause-small
returns-clause-small c = derivations_below_give

pub returns-clause-read : goal.returns-clause-read
returns-clause-read c = read_derivations_below_give
