use Rattle.std.proofs.Common.{sym, ap, ◌∙◌, is_some, bytes_eq}
use Rattle.std.specs.Prelude.{slice_get}
use Rattle.std.specs.Map.{keys_of}
use Rattle.std.proofs.lemmas.Map.Made.{is_some-lookup}
use Rattle.indexmap.proofs.MapLemmas.{some_index}
use Rattle.tg_graph.proofs.Positions.{place-of, among-at}
use Rattle.tg_graph.proofs.protection.Graph.position_near.Goals as goal

pub returns-then-stands_at-clause-known : goal.returns-then-stands_at-clause-known
returns-then-stands_at-clause-known c =
    sym (among-at (keys_of c.args.self.now) c.args.name c.args.guess
    (ap (λ rows. slice_get (keys_of rows) c.args.guess) (sym c.self.view_is) ∙ c.stands_at.ensures.stands c.if-stands_at.true))

pub returns-else-stands_at-clause-place : goal.returns-else-stands_at-clause-place
returns-else-stands_at-clause-place c = place-of (keys_of c.args.self.now) c.args.name c.position.result (sym c.position.ensures)

pub returns-else-stands_at-clause-known : goal.returns-else-stands_at-clause-known
returns-else-stands_at-clause-known c =
    ap is_some c.position.ensures ∙ some_index (bytes_eq c.args.name) c.args.self.now ∙ is_some-lookup (bytes_eq c.args.name) c.args.self.now
