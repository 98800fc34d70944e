use Rattle.std.proofs.Common.{◌≡◌, ℕ, ◌<◌}
use Rattle.tg_flow.specs.Searches.{search_of, MissesNone}
use Rattle.tg_flow.proofs.searches.Search.look_at_all.Given as goal

abbrev pub invariant-loop-number : goal.invariant-loop-number
invariant-loop-number l =
    record {
      same : l.ways ≡ l.fn.ways;
      misses : (k : ℕ) → k < l.number → MissesNone (search_of l.self) l.fn.ways k;
    }
