use Rattle.std.proofs.Common.{refl, arith}
use Rattle.std.proofs.lemmas.List.{length-take-le}
use Rattle.tg_graph.specs.GraphOf.{graph_of}
use Rattle.tg_sharing.specs.Derivations.{end_of}
use Rattle.tg_sharing.proofs.Moved.{carried_first, carried_next, carried_whole, chain_next}
use Rattle.tg_sharing.proofs.derivations.carry.Goals as goal

pub loop-p-init : goal.loop-p-init
loop-p-init c = record {
  carried = carried_first (graph_of c.args.graph.now) c.args.right c.args.y c.args.holder c.args.rules.now.items c.args.next c.requires.so_far c.requires.held;
  here = refl;
  joined = c.requires.joined;
}

pub add_move-requires-clause-underway : goal.add_move-requires-clause-underway
add_move-requires-clause-underway c = rw c.loop-p.invariant.here c.loop-p.invariant.carried.underway

pub add_move-requires-clause-low : goal.add_move-requires-clause-low
add_move-requires-clause-low c = omega (arith, c.loop-p.invariant.carried.low, length-take-le c.loop-p.p-index c.args.links.now (omega arith), c.requires.low, c.requires.short)

pub loop-p-preserved : goal.loop-p-preserved
loop-p-preserved c =
    let before = c.loop-p.invariant in
    let more = carried_next (graph_of c.args.graph.now) c.args.right c.args.y c.args.holder c.args.rules.now.items c.args.next c.args.links.now c.loop-p.p-index c.p-item.result c.loop-p.q c.loop-p.rules.items c.add_move.new.rules.items c.loop-p.number c.in_ok-number.number (omega arith) c.p-item.is before.here before.carried c.in_ok-number.ensures in
    record {
      carried = more.0;
      here = more.1;
      joined = chain_next (graph_of c.args.graph.now) c.args.links.now c.loop-p.p-index c.p-item.result c.loop-p.q (end_of c.args.holder c.args.links.now) (omega arith) c.p-item.is before.joined;
    }

pub returns : goal.returns
returns c = carried_whole (graph_of c.args.graph.now) c.args.right c.args.y c.args.holder c.args.rules.now.items c.args.next c.args.links.now c.loop-p.p-index c.loop-p.rules.items c.loop-p.number (omega arith) c.loop-p.invariant.carried
