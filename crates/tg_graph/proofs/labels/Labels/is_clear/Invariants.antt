use Rattle.std.proofs.Common.{◌≡◌, ◌<◌, ℕ, false, get_or}
use Rattle.tg_names.specs.Sets.{nothing}
use Rattle.tg_graph.proofs.labels.Labels.is_clear.Given as goal

-- none was found in front of the place
abbrev pub invariant-loop-i : goal.invariant-loop-i
invariant-loop-i l = l.found ≡ false → (k : ℕ) → k < l.i → get_or l.self-inside.labels.items k nothing ≡ nothing
