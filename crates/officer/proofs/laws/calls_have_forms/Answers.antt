use Rattle.officer.proofs.FormLaws.{calls_have_forms}
use Rattle.officer.proofs.laws.calls_have_forms.Goals as goal

pub returns : goal.returns
returns c = calls_have_forms
