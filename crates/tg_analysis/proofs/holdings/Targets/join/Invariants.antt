use Rattle.std.proofs.Common.{◌≡◌, ℕ, ◌||◌, ◌&&◌, nat_lt}
use Rattle.tg_analysis.specs.Holdings.{is_marked}
use Rattle.tg_analysis.proofs.holdings.Targets.join.Given as goal

abbrev pub invariant-loop-position : goal.invariant-loop-position
invariant-loop-position l = (b : ℕ) → is_marked l.self b ≡ (is_marked l.initial.self b || (nat_lt b l.position && is_marked l.other-inside.marks.items b))
