use Rattle.tg_index.specs.ByTarget.{IsIndexOf}
use Rattle.tg_analysis_tests.proofs.index_tests.assert_kept_agrees.Given as goal

abbrev pub invariant-loop-j : goal.invariant-loop-j
invariant-loop-j g l = IsIndexOf l.graph l.index

abbrev pub invariant-loop-i : goal.invariant-loop-i
invariant-loop-i g l = IsIndexOf l.graph l.index
