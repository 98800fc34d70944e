use Rattle.std.proofs.Common.{subst}
use Rattle.tg_rows.specs.Rows.{IsGraph}
use Rattle.tg_graph.proofs.Graphs.{well_formed}
use Rattle.tg_graph.proofs.protection.Graph.len.Goals as goal

pub returns-clause-well_formed : goal.returns-clause-well_formed
returns-clause-well_formed c = well_formed c.args.self.now (subst IsGraph c.self.view_is c.self.invariant)
