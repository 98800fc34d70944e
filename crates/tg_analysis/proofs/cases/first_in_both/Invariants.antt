use Rattle.tg_analysis.proofs.CaseOrder.{NoneInBoth}
use Rattle.tg_analysis.proofs.cases.first_in_both.Given as goal

abbrev pub invariant-loop-right : goal.invariant-loop-right
invariant-loop-right l = NoneInBoth l.one l.other l.right-index
