use Rattle.tg_reports.proofs.IslandLines.{islands_are_lines}
use Rattle.tg_reports.proofs.laws.islands_are_lines.Goals as goal

pub returns : goal.returns
returns c = islands_are_lines
