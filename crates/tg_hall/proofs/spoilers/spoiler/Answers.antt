use Rattle.std.proofs.Common.{sym, ap, ◌∙◌}
use Rattle.std.specs.Prelude.{find}
use Rattle.tg_graph.specs.GraphOf.{graph_of}
use Rattle.tg_hall.specs.Touches.{touches}
use Rattle.tg_hall.proofs.Told.{writes-told}
use Rattle.tg_hall.proofs.spoilers.spoiler.Goals as goal

pub returns : goal.returns
returns c = c.told_spoiler.ensures ∙ ap (find (touches c.args.session.now)) (sym (writes-told (graph_of c.args.graph.now) c.args.committed.now c.requires))
