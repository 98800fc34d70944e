use Rattle.tg_text_laws.proofs.KindLaws.{no_header_is_ends_early}
use Rattle.tg_text_laws.proofs.no_header_is_an_early_end.Goals as goal

pub returns : goal.returns
returns c = no_header_is_ends_early
