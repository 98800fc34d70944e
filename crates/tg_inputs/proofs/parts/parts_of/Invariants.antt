use Rattle.std.proofs.Common.{length}
use Rattle.tg_inputs.proofs.Parting.{IsParting}
use Rattle.tg_inputs.proofs.parts.parts_of.Given as goal

abbrev pub invariant-loop-rest : goal.invariant-loop-rest
invariant-loop-rest l = IsParting l.input l.rest

abbrev pub decreases-loop-rest : goal.decreases-loop-rest
decreases-loop-rest l = length l.rest
