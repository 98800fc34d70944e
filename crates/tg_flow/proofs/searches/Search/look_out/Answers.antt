use Rattle.tg_flow.specs.Searches.{search_of}
use Rattle.tg_flow.proofs.Found.{further-none, further-then}
use Rattle.tg_flow.proofs.searches.Search.look_out.Goals as goal

pub loop-number-init : goal.loop-number-init
loop-number-init c = further-none (search_of c.args.self.now) c.args.ways.now c.requires

pub look_at_number-requires : goal.look_at_number-requires
look_at_number-requires c = c.loop-number.invariant.is_search

pub loop-number-preserved : goal.loop-number-preserved
loop-number-preserved c = further-then (search_of c.args.self.now) c.args.ways.now c.loop-number.ways c.look_at_number.new.ways c.loop-number.invariant c.in_ok-look_at_number.ensures
