use Rattle.tg_flow.specs.Searches.{search_of, GoesFurther}
use Rattle.tg_flow.proofs.searches.Search.look_out.Given as goal

abbrev pub invariant-loop-number : goal.invariant-loop-number
invariant-loop-number l = GoesFurther (search_of l.self) l.fn.ways l.ways
