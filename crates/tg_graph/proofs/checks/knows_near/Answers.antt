use Rattle.std.proofs.Common.{◌∙◌, ap, is_some, bytes_eq}
use Rattle.std.proofs.lemmas.Map.Made.{is_some-lookup}
use Rattle.tg_graph.proofs.checks.knows_near.Goals as goal

pub returns-in-Some : goal.returns-in-Some
returns-in-Some g c = ap is_some c.in-Some.ensures ∙ is_some-lookup (bytes_eq c.args.name) (g.R.Rows.entries c.args.rows.now)

pub returns-in-None : goal.returns-in-None
returns-in-None g c = ap is_some c.in-None.ensures ∙ is_some-lookup (bytes_eq c.args.name) (g.R.Rows.entries c.args.rows.now)
