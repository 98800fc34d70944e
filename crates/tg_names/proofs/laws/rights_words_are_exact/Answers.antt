use Rattle.tg_names.proofs.RightsWords.{rights_words_exactly}
use Rattle.tg_names.proofs.laws.rights_words_are_exact.Goals as goal

pub returns-clause-read : goal.returns-clause-read
returns-clause-read c = rights_words_exactly
