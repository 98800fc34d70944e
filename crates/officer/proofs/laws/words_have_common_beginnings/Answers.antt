use Rattle.officer.proofs.FormLaws.{words_have_common_beginnings}
use Rattle.officer.proofs.laws.words_have_common_beginnings.Goals as goal

pub returns : goal.returns
returns c = words_have_common_beginnings
