use Rattle.tg_flow.specs.Searches.{search_of, GoesFurther}
use Rattle.tg_flow.proofs.searches.Search.flood.Given as goal

abbrev pub invariant-loop-place : goal.invariant-loop-place
invariant-loop-place l = GoesFurther (search_of l.self) l.fn.ways l.ways
