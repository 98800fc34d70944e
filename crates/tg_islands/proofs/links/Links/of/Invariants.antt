use Rattle.tg_islands.specs.Linked.{LinksUpTo}
use Rattle.tg_islands.proofs.links.Links.of.Given as goal

abbrev pub invariant-loop-position : goal.invariant-loop-position
invariant-loop-position l = LinksUpTo l.graph l.links l.position 0
