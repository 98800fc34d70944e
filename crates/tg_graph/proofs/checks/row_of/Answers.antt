use Rattle.std.proofs.Common.{sym, ap, ◌∙◌, is_some, bytes_eq}
use Rattle.std.specs.Option.{option_map_or}
use Rattle.std.proofs.lemmas.Map.Made.{is_some-lookup}
use Rattle.tg_names.specs.Sets.{nothing}
use Rattle.tg_rows.specs.Rows.{label_in}
use Rattle.tg_graph.proofs.checks.row_of.Goals as goal

pub returns-in-Some : goal.returns-in-Some
returns-in-Some g c = record {
  known = sym (ap is_some c.in-Some.ensures ∙ is_some-lookup (bytes_eq c.args.x) (g.R.Rows.entries c.args.rows.now));
  labels = λ y. ap (λ o. option_map_or (λ row. label_in row y) o nothing) c.in-Some.ensures;
}

pub returns-in-None : goal.returns-in-None
returns-in-None g c = sym (ap is_some c.in-None.ensures ∙ is_some-lookup (bytes_eq c.args.x) (g.R.Rows.entries c.args.rows.now))
