use Rattle.std.proofs.Common.{sym, ◌∙◌}
use Rattle.std.specs.Map.{keys_of}
use Rattle.tg_graph.proofs.Positions.{at-position}
use Rattle.tg_islands.proofs.Places.{place-known}
use Rattle.tg_cuts.proofs.KeptEnds.{absent}
use Rattle.tg_cuts.proofs.kept.position_of.Goals as goal

pub returns-in-Some-clause-known : goal.returns-in-Some-clause-known
returns-in-Some-clause-known c = place-known (keys_of c.args.graph.now) c.in-Some.position c.args.name (at-position (keys_of c.args.graph.now) c.args.name c.in-Some.position (sym c.position.ensures ∙ c.in-Some.is))

pub returns-in-Some-clause-place : goal.returns-in-Some-clause-place
returns-in-Some-clause-place c = at-position (keys_of c.args.graph.now) c.args.name c.in-Some.position (sym c.position.ensures ∙ c.in-Some.is)

pub returns-in-None-clause-none : goal.returns-in-None-clause-none
returns-in-None-clause-none c = absent (keys_of c.args.graph.now) c.args.name (sym c.position.ensures ∙ c.in-None.is)
