use Rattle.std.proofs.Common.{◌≡◌, ℕ, ◌≤◌, ◌||◌, length}
use Rattle.tg_analysis.specs.Holdings.{holds_over}
use Rattle.tg_analysis.proofs.holdings.Holdings.join.Given as goal

abbrev pub invariant-loop-targets : goal.invariant-loop-targets
invariant-loop-targets l = record {
  len : length l.self ≡ length l.initial.self;
  room : length l.other-inside.islands.items ≤ length l.self;
  held : (k b : ℕ) → (holds_over l.self k b || holds_over l.other-inside.islands.items k b) ≡ (holds_over l.initial.self k b || holds_over l.fn.other k b);
}

abbrev pub decreases-loop-targets : goal.decreases-loop-targets
decreases-loop-targets l = length l.other-inside.islands.items
