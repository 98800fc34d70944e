use Rattle.std.proofs.Common.{take}
use Rattle.tg_graph.specs.GraphOf.{graph_of}
use Rattle.tg_text.specs.PolicyText.{policy_of}
use Rattle.tg_policies.specs.PolicyParts.{HasTold}
use Rattle.tg_policies.proofs.verifying.told.Given as goal

abbrev pub invariant-loop-line : goal.invariant-loop-line
invariant-loop-line l = HasTold l.why (graph_of l.graph) (policy_of (take l.line-index l.lines)) l.verdicts
