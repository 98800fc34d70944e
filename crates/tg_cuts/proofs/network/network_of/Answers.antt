use Rattle.std.proofs.Common.{◌≡◌, List, length, arith, sym, subst}
use Rattle.std.specs.Map.{keys_of}
use Rattle.std.proofs.lemmas.Map.Entries.{length-keys_of}
use Rattle.tg_flow.specs.declared.edges.FlowEdge.{FlowEdge}
use Rattle.tg_cuts.specs.CutParts.{EdgesUpTo}
use Rattle.tg_cuts.proofs.FlowEdges.{edges-none}
use Rattle.tg_cuts.proofs.network.network_of.Goals as goal

pub loop-position-init : goal.loop-position-init
loop-position-init c =
    let sought = c.args.sought.now in
    subst (λ (edges : List FlowEdge). EdgesUpTo c.args.graph.now sought.right sought.y sought.kept.now 0 0 edges) (sym c.in_ok-network.ensures) (edges-none c.args.graph.now sought.right sought.y sought.kept.now)

pub put_row-requires-clause-graph : goal.put_row-requires-clause-graph
put_row-requires-clause-graph c = c.len.ensures.graph

pub returns : goal.returns
returns c =
    let sought = c.args.sought.now in
    let end : c.loop-position.position ≡ length (keys_of c.args.graph.now) = omega (arith, c.len-position-end.ensures.value, length-keys_of c.args.graph.now) in
    subst (λ n. EdgesUpTo c.args.graph.now sought.right sought.y sought.kept.now n 0 c.loop-position.network) end c.loop-position.invariant
