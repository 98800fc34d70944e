use Rattle.std.proofs.Common.{◌≡◌, ◌++◌, take}
use Rattle.tg_text.proofs.PolicyWords.{operand_texts}
use Rattle.tg_text.proofs.policy_text.append_line.Given as goal

abbrev pub invariant-loop-operand : goal.invariant-loop-operand
invariant-loop-operand l = l.text.items ≡ l.initial.text.items ++ operand_texts (take l.operand-index l.line.operands.items)
