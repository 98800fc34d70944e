use Rattle.std.proofs.Common.{sym, ◌∙◌}
use Rattle.tg_cuts.proofs.FlowEdges.{name-is, names-past}
use Rattle.tg_cuts.proofs.network.name_of.Goals as goal

pub unreachable-requires : goal.unreachable-requires
unreachable-requires c = names-past c.args.graph.now c.args.position c.requires (sym c.name_at.ensures ∙ c.in-None.is)

pub returns : goal.returns
returns c = sym (name-is c.args.graph.now c.args.position c.in-Some.name (sym c.name_at.ensures ∙ c.in-Some.is))
