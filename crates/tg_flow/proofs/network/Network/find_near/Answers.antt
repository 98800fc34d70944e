use Rattle.tg_flow.proofs.Marks.{near-found}
use Rattle.tg_flow.proofs.network.Network.find_near.Goals as goal

pub returns : goal.returns
returns c = near-found c.args.self.now c.args.x c.run.new.ways c.in_ok-near.near.items c.in_ok-run.ensures c.in_ok-near.ensures
