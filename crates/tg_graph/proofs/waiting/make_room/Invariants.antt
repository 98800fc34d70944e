use Rattle.std.proofs.Common.{◌≡◌, ◌≤◌, ℕ, get_or, length, []}
use Rattle.tg_graph.proofs.waiting.make_room.Given as goal

abbrev pub invariant-loop : goal.invariant-loop
invariant-loop l = record {
  same : (k : ℕ) → get_or l.waits.items k [] ≡ get_or l.fn.waits.items k [];
  room : l.counter ≤ length l.waits.items;
}
