use Rattle.std.specs.Map.{keys_of}
use Rattle.tg_analysis.specs.Cases.{AreHeldBy}
use Rattle.tg_analysis.proofs.case_index.held_by.Given as goal

abbrev pub invariant-loop-place : goal.invariant-loop-place
invariant-loop-place l = AreHeldBy (keys_of l.graph) l.islands l.edges l.names l.place l.held.items
