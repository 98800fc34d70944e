use Rattle.std.proofs.Common.{List, sym, subst}
use Rattle.tg_graph.specs.GraphOf.{graph_of}
use Rattle.tg_text.specs.declared.policy_text.PolicyLine.{PolicyLine}
use Rattle.tg_text.specs.PolicyText.{policy_of, ArePolicyLines}
use Rattle.tg_policies.proofs.verifying.verify.Goals as goal

pub verified-requires-clause-sound : goal.verified-requires-clause-sound
verified-requires-clause-sound c =
    subst (λ (lines : List PolicyLine). ArePolicyLines (graph_of c.in_ok-graph.graph) (policy_of lines)) (sym c.deref.ensures.value) c.in_ok-lines.ensures.sound
