use Rattle.tg_flow.specs.Courses.{is_in}
use Rattle.tg_flow.proofs.Marks.{beyond-found}
use Rattle.tg_flow.proofs.network.Network.find_beyond.Goals as goal

pub returns : goal.returns
returns c = beyond-found c.args.self.now c.args.has_holders (is_in c.args.near.now) c.run.new.ways c.in_ok-beyond.beyond.items c.in_ok-run.ensures c.in_ok-beyond.ensures
