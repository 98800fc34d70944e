use Rattle.tg_reports.proofs.DerivedTexts.{derivations_give, read_derivations_give}
use Rattle.tg_reports.proofs.laws.derivations_give_the_rights.Goals as goal

pub returns-clause-small : goal.returns-clause-small
returns-clause-small c = derivations_give

pub returns-clause-read : goal.returns-clause-read
returns-clause-read c = read_derivations_give
