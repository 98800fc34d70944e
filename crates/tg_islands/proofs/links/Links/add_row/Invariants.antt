use Rattle.tg_islands.specs.Linked.{LinksUpTo}
use Rattle.tg_islands.proofs.links.Links.add_row.Given as goal

abbrev pub invariant-loop-place : goal.invariant-loop-place
invariant-loop-place l = LinksUpTo l.graph l.self l.position l.place
