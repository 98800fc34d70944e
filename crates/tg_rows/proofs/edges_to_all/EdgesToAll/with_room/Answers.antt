use Rattle.std.specs.Arc.{arc_value}
use Rattle.tg_rows.proofs.LabelsToAll.{zip-nil}
use Rattle.tg_rows.proofs.edges_to_all.EdgesToAll.with_room.Goals as goal

pub returns : goal.returns
returns c = zip-nil (arc_value c.in_ok-names.names).items c.in_ok-labels.labels.items c.in_ok-labels.ensures.items
