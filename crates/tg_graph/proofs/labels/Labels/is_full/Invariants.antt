use Rattle.std.proofs.Common.{◌≡◌, ◌<◌, ℕ, false, get_or}
use Rattle.tg_names.specs.Sets.{is_empty_set, nothing}
use Rattle.tg_graph.proofs.labels.Labels.is_full.Given as goal

-- none was missing in front of the place
abbrev pub invariant-loop-i : goal.invariant-loop-i
invariant-loop-i l = l.missing ≡ false → (k : ℕ) → k < l.i → is_empty_set (get_or l.self-inside.labels.items k nothing) ≡ false
