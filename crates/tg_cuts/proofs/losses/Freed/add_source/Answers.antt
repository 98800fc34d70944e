use Rattle.std.proofs.Common.{sym, ◌∙◌}
use Rattle.std.specs.Map.{keys_of}
use Rattle.tg_graph.proofs.Positions.{at-position}
use Rattle.tg_islands.proofs.Places.{position-none}
use Rattle.tg_cuts.proofs.losses.Freed.add_source.Goals as goal

pub unreachable-requires : goal.unreachable-requires
unreachable-requires c = position-none (keys_of c.args.graph.now) c.args.source c.requires.known (sym c.position.ensures ∙ c.in_default.is)

pub add_row-requires-clause-source : goal.add_row-requires-clause-source
add_row-requires-clause-source c = at-position (keys_of c.args.graph.now) c.args.source c.in-Some.position (sym c.position.ensures ∙ c.in-Some.is)

pub returns : goal.returns
returns c = (c.in-Some.position, at-position (keys_of c.args.graph.now) c.args.source c.in-Some.position (sym c.position.ensures ∙ c.in-Some.is), c.in_ok-add_row.ensures)
