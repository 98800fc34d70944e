use Rattle.tg_analysis.specs.Cases.{AreNumbersAt}
use Rattle.tg_analysis.proofs.case_index.numbers_at.Given as goal

abbrev pub invariant-loop-index : goal.invariant-loop-index
invariant-loop-index l = AreNumbersAt l.numbers l.places l.index l.listed.items
