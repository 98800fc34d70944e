use Rattle.std.proofs.Common.{◌≡◌, [], replicate}
use Rattle.tg_analysis.proofs.holdings.Holdings.none.Given as goal

abbrev pub invariant-loop : goal.invariant-loop
invariant-loop l = l.islands.items ≡ replicate l.counter []
