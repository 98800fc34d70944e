use Rattle.std.specs.Map.{keys_of}
use Rattle.tg_analysis.specs.Cases.{AreNumbersOf}
use Rattle.tg_analysis.proofs.case_index.numbers_of.Given as goal

abbrev pub invariant-loop-place : goal.invariant-loop-place
invariant-loop-place l = AreNumbersOf (keys_of l.graph) l.islands l.names l.place l.numbers.items
