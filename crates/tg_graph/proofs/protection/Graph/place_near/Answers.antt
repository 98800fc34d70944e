use Rattle.std.proofs.Common.{sym, ap, ◌∙◌, is_some, bytes_eq}
use Rattle.std.specs.Map.{keys_of}
use Rattle.std.proofs.lemmas.Map.Made.{is_some-lookup}
use Rattle.indexmap.proofs.MapLemmas.{some_index}
use Rattle.tg_graph.proofs.Positions.{place-of}
use Rattle.tg_graph.proofs.protection.Graph.place_near.Goals as goal

pub returns-clause-place : goal.returns-clause-place
returns-clause-place c = place-of (keys_of c.args.self.now) c.args.name c.position_by.result (sym c.position_by.ensures)

pub returns-clause-known : goal.returns-clause-known
returns-clause-known c =
    ap is_some c.position_by.ensures ∙ some_index (bytes_eq c.args.name) c.args.self.now ∙ is_some-lookup (bytes_eq c.args.name) c.args.self.now
