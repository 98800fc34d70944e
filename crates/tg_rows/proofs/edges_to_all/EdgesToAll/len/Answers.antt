use Rattle.std.proofs.Common.{arith}
use Rattle.std.specs.Arc.{arc_value}
use Rattle.tg_rows.proofs.LabelsToAll.{labelled-length}
use Rattle.tg_rows.proofs.edges_to_all.EdgesToAll.len.Goals as goal

pub returns : goal.returns
returns c =
    omega (arith, c.len.ensures, labelled-length (arc_value c.self.inside.names).items c.self.inside.labels.items c.args.self.now c.self.view_is c.self.invariant)
