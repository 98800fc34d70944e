use Rattle.std.proofs.Common.{◌≡◌, ◌<◌, ℕ, get_or, length, []}
use Rattle.tg_graph.specs.Waiting.{graph_built, MayWait}
use Rattle.tg_graph.proofs.waiting.settle_all.Given as goal

-- nothing waits for the vertices in front of the source
abbrev pub invariant-loop-source : goal.invariant-loop-source
invariant-loop-source l = record {
  same : graph_built (l.graph, l.waits.items) ≡ graph_built (l.fn.graph, l.fn.waits.items);
  may_wait : MayWait (l.graph, l.waits.items);
  settled : (k : ℕ) → k < l.source → get_or l.waits.items k [] ≡ [];
  as_many : length l.waits.items ≡ l.source-end;
}
