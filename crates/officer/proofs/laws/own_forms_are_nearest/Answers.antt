use Rattle.officer.proofs.FormLaws.{own_forms_are_nearest}
use Rattle.officer.proofs.laws.own_forms_are_nearest.Goals as goal

pub returns : goal.returns
returns c = own_forms_are_nearest
