use Rattle.tg_flow.specs.Searches.{search_of, GoesFurther}
use Rattle.tg_flow.proofs.searches.Search.look_in.Given as goal

abbrev pub invariant-loop-entry : goal.invariant-loop-entry
invariant-loop-entry l = GoesFurther (search_of l.self) l.fn.ways l.ways
