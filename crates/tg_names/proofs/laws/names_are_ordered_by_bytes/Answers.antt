use Rattle.tg_names.proofs.NameLaws.{prefix_first, difference_decides}
use Rattle.tg_names.proofs.laws.names_are_ordered_by_bytes.Goals as goal

pub returns : goal.returns
returns c = record { prefix = prefix_first; difference = difference_decides }
