use Rattle.tg_flow.specs.Searches.{search_of, IsSearch, unmet_count}
use Rattle.tg_flow.proofs.searches.Search.run.Given as goal

abbrev pub invariant-loop : goal.invariant-loop
invariant-loop l = IsSearch (search_of l.self) l.ways

abbrev pub decreases-loop : goal.decreases-loop
decreases-loop l = unmet_count l.ways
