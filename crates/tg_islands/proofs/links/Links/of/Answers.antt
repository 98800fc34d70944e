use Rattle.std.proofs.Common.{◌≡◌, length, arith, subst}
use Rattle.std.specs.Map.{keys_of}
use Rattle.std.proofs.lemmas.Map.Entries.{length-keys_of}
use Rattle.tg_islands.specs.Linked.{LinksUpTo}
use Rattle.tg_islands.proofs.Linked.{links-whole}
use Rattle.tg_islands.proofs.links.Links.of.Goals as goal

pub returns : goal.returns
returns c =
    let end : c.loop-position.position ≡ length (keys_of c.args.graph.now) = omega (arith, c.len-position-end.ensures.value, length-keys_of) in
    links-whole c.args.graph.now c.len.ensures.graph c.loop-position.links (subst (λ n. LinksUpTo c.args.graph.now c.loop-position.links n 0) end c.loop-position.invariant)
