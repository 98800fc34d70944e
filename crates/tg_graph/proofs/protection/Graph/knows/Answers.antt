use Rattle.std.proofs.Common.{◌∙◌, ap, is_some, bytes_eq}
use Rattle.std.proofs.lemmas.Map.Made.{is_some-lookup}
use Rattle.indexmap.proofs.MapLemmas.{some_index}
use Rattle.tg_graph.proofs.protection.Graph.knows.Goals as goal

pub returns : goal.returns
returns c = c.is_some.ensures ∙ ap is_some c.position.ensures ∙ some_index (bytes_eq c.args.name) c.args.self.now ∙ is_some-lookup (bytes_eq c.args.name) c.args.self.now
