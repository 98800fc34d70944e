use Rattle.std.proofs.Common.{List, sym, subst}
use Rattle.std.specs.Map.{keys_of}
use Rattle.tg_names.specs.Names.{Name}
use Rattle.tg_sharing.specs.Searches.{AddsUnmet}
use Rattle.tg_sharing.proofs.Rounds.{unmet-push}
use Rattle.tg_sharing.proofs.chains.add_unmet.Goals as goal

pub returns-in_ok-push-in-Some : goal.returns-in_ok-push-in-Some
returns-in_ok-push-in-Some c =
    subst (λ (names : List Name). AddsUnmet (keys_of c.args.graph.now) c.args.met.now c.args.position c.args.names.now.items names) (sym c.in_ok-push-in-Some.ensures.items)
    (unmet-push (keys_of c.args.graph.now) c.args.met.now c.args.position c.args.names.now.items c.in-Some.name (sym c.in-Some.ensures))
