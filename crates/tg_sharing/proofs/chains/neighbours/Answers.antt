use Rattle.std.proofs.Common.{sym, ap, ◌∙◌, nat_eq}
use Rattle.std.specs.List.{list_any}
use Rattle.std.specs.Map.{keys_of}
use Rattle.tg_graph.specs.GraphOf.{graph_of}
use Rattle.tg_sharing.proofs.Rounds.{near-position}
use Rattle.tg_islands.proofs.Places.{position-none}
use Rattle.tg_sharing.proofs.chains.neighbours.Goals as goal

pub returns-in-Some : goal.returns-in-Some
returns-in-Some c =
    λ position v there. ap (list_any (nat_eq position)) c.at.ensures
    ∙ near-position (graph_of c.args.graph.now) c.args.links.now c.args.vertex c.in-Some.position c.requires.links (sym c.position.ensures ∙ c.in-Some.is) position v there

pub returns-in-None : goal.returns-in-None
returns-in-None c = λ position v there. absurd (position-none (keys_of c.args.graph.now) c.args.vertex c.requires.known (sym c.position.ensures ∙ c.in-None.is))
