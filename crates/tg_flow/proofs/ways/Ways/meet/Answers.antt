use Rattle.tg_flow.proofs.PackedWays.{step-put}
use Rattle.tg_flow.proofs.ways.Ways.meet.Goals as goal

pub returns-clause-met : goal.returns-clause-met
returns-clause-met c = step-put c.self.inside.steps.items c.args.self.now c.args.position c.in-Some.packed c.args.step c.self.view_is c.in-Some.ensures
