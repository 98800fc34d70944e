use Rattle.std.proofs.Common.{[], get_or}
use Rattle.std.specs.Map.{keys_of}
use Rattle.std.proofs.lemmas.List.{nil_from_length}
use Rattle.tg_graph.proofs.Positions.{among-at}
use Rattle.tg_graph.proofs.BuiltGraphs.{adds-aside, as_many-aside, may_wait-same}
use Rattle.tg_graph.proofs.waiting.add_at_once.Goals as goal

pub add_edge_at-requires-clause-known : goal.add_edge_at-requires-clause-known
add_edge_at-requires-clause-known c = among-at (keys_of c.args.graph.now) c.args.x c.args.source c.requires.source

pub add_edge_at-requires-clause-target : goal.add_edge_at-requires-clause-target
add_edge_at-requires-clause-target c = among-at (keys_of c.args.graph.now) c.args.y c.args.target c.requires.target

pub returns-clause-added : goal.returns-clause-added
returns-clause-added c =
    adds-aside c.args.graph.now c.add_edge_at.new.self c.args.waits.now c.args.source c.args.x c.args.y c.args.rights c.len.ensures.graph.apart c.requires.source (nil_from_length (get_or c.args.waits.now c.args.source []) c.requires.waits)
    c.add_edge_at.result c.add_edge_at.ensures.added

pub returns-clause-may_wait : goal.returns-clause-may_wait
returns-clause-may_wait c =
    may_wait-same c.args.graph.now c.add_edge_at.new.self c.args.waits.now (as_many-aside c.args.graph.now c.add_edge_at.new.self c.args.x c.args.y c.args.rights c.add_edge_at.result c.add_edge_at.ensures.added c.add_edge_at.ensures.kept) c.requires.may_wait

pub returns-clause-as_many : goal.returns-clause-as_many
returns-clause-as_many c = as_many-aside c.args.graph.now c.add_edge_at.new.self c.args.x c.args.y c.args.rights c.add_edge_at.result c.add_edge_at.ensures.added c.add_edge_at.ensures.kept
