use Rattle.tg_text.proofs.NumberLaws.{number_words_exactly, numbers_are_decimal}
use Rattle.tg_text_laws.proofs.numbers_are_exact.Goals as goal

pub returns-clause-words : goal.returns-clause-words
returns-clause-words c = number_words_exactly

pub returns-clause-values : goal.returns-clause-values
returns-clause-values c = numbers_are_decimal
