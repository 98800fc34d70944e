use Rattle.tg_analysis.proofs.Reached.{labels-more}
use Rattle.tg_analysis.proofs.reaching.add_row.Goals as goal

pub loop-place-preserved : goal.loop-place-preserved
loop-place-preserved c =
    labels-more c.args.graph.now c.args.position c.loop-place.place c.args.sets.now.items c.loop-place.sets.items c.add_edge.new.sets.items c.loop-place.invariant c.add_edge.ensures
