use Rattle.tg_flow.specs.Searches.{search_of}
use Rattle.tg_flow.proofs.Found.{further-none, further-then}
use Rattle.tg_flow.proofs.searches.Search.look_in.Goals as goal

pub loop-entry-init : goal.loop-entry-init
loop-entry-init c = further-none (search_of c.args.self.now) c.args.ways.now c.requires

pub look_at_entry-requires : goal.look_at_entry-requires
look_at_entry-requires c = c.loop-entry.invariant.is_search

pub loop-entry-preserved : goal.loop-entry-preserved
loop-entry-preserved c = further-then (search_of c.args.self.now) c.args.ways.now c.loop-entry.ways c.look_at_entry.new.ways c.loop-entry.invariant c.in_ok-look_at_entry.ensures
