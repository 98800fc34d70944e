use Rattle.tg_text_laws.proofs.WordCuts.{blanks_exactly, words_exactly}
use Rattle.tg_text_laws.proofs.words_are_exact.Goals as goal

pub returns-clause-blanks : goal.returns-clause-blanks
returns-clause-blanks c = blanks_exactly

pub returns-clause-words : goal.returns-clause-words
returns-clause-words c = words_exactly
