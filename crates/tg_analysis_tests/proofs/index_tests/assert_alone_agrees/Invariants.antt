use Rattle.tg_index.specs.ByTarget.{IsIndexOf}
use Rattle.tg_analysis_tests.proofs.index_tests.assert_alone_agrees.Given as goal

abbrev pub invariant-loop-pair : goal.invariant-loop-pair
invariant-loop-pair g l = IsIndexOf l.graph l.index
