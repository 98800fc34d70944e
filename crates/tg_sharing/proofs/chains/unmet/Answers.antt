use Rattle.std.proofs.Common.{refl, arith, get_or}
use Rattle.tg_graph.specs.GraphOf.{graph_of}
use Rattle.tg_sharing.proofs.Rounds.{unmet-next, unmet-whole}
use Rattle.tg_sharing.proofs.chains.unmet.Goals as goal

pub loop-position-preserved : goal.loop-position-preserved
loop-position-preserved c =
    let near = c.neighbours-near.result.now in
    let i = c.loop-position.position-index in
    unmet-next (graph_of c.args.graph.now) c.args.met.now c.args.vertex near i (get_or near i 0) c.loop-position.names.items c.add_unmet.new.names.items c.neighbours-near.ensures (omega arith) refl c.loop-position.invariant c.in_ok-add_unmet.ensures

pub returns : goal.returns
returns c =
    unmet-whole (graph_of c.args.graph.now) c.args.met.now c.args.vertex c.neighbours-near.result.now c.requires.well_formed c.loop-position.position-index c.loop-position.names.items c.sort_unstable.new.self.items c.neighbours-near.ensures (omega arith) c.loop-position.invariant c.sort_unstable.ensures.permutation
