use Rattle.tg_graph.specs.GraphOf.{graph_of}
use Rattle.tg_graph.proofs.Runs.{leads-more}
use Rattle.tg_graph.proofs.protection.Graph.run.Goals as goal

pub loop-i-preserved : goal.loop-i-preserved
loop-i-preserved c =
    leads-more (graph_of c.args.self.now) (graph_of c.loop-i.self) (graph_of c.apply.new.self) c.args.rules.now c.loop-i.i c.index-rules-i.result c.loop-i-test.true c.index-rules-i.is c.loop-i.invariant c.in-Ok.ensures.applied
