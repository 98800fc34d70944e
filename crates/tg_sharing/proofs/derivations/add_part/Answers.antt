use Rattle.std.proofs.Common.{List, sym, subst, arith}
use Rattle.std.proofs.lemmas.Map.Entries.{length-keys_of}
use Rattle.tg_names.specs.Names.{Name}
use Rattle.tg_graph.specs.GraphOf.{graph_of}
use Rattle.tg_sharing.specs.Searches.{IsWay}
use Rattle.tg_sharing.proofs.Derived.{part_added, way_short, way_joined, none_derives}
use Rattle.tg_sharing.proofs.Searched.{start-known}
use Rattle.tg_sharing.proofs.derivations.add_part.Goals as goal

pub carry-requires-clause-short : goal.carry-requires-clause-short
carry-requires-clause-short c =
    let way = subst (λ (links : List Name). IsWay (graph_of c.args.graph.now) c.args.right c.args.search.now.start c.args.y c.in-Some.chain.holder links) (sym c.as_slice.ensures.value) (rw c.in-Some.is at c.in_ok-chain_to.ensures.chain) in
    omega (arith, way_short (graph_of c.args.graph.now) c.requires.well_formed c.args.right c.args.search.now.start c.args.y c.in-Some.chain.holder c.as_slice.result.now way, c.requires.small, length-keys_of c.args.graph.now)

pub carry-requires-clause-joined : goal.carry-requires-clause-joined
carry-requires-clause-joined c =
    let way = subst (λ (links : List Name). IsWay (graph_of c.args.graph.now) c.args.right c.args.search.now.start c.args.y c.in-Some.chain.holder links) (sym c.as_slice.ensures.value) (rw c.in-Some.is at c.in_ok-chain_to.ensures.chain) in
    way_joined (graph_of c.args.graph.now) c.requires.well_formed c.args.right c.args.search.now.start c.args.y c.in-Some.chain.holder c.as_slice.result.now way

pub returns-in-None-clause-part : goal.returns-in-None-clause-part
returns-in-None-clause-part c = none_derives (graph_of c.args.graph.now) c.requires.well_formed c.args.right c.args.search.now.start c.args.y (start-known (graph_of c.args.graph.now) c.args.search.now c.requires.searching) c.requires.known (rw c.in-None.is at c.in_ok-chain_to.ensures.chain)

pub returns-in_ok-last-in-Some-clause-part : goal.returns-in_ok-last-in-Some-clause-part
returns-in_ok-last-in-Some-clause-part c =
    let way = subst (λ (links : List Name). IsWay (graph_of c.args.graph.now) c.args.right c.args.search.now.start c.args.y c.in-Some.chain.holder links) (sym c.as_slice.ensures.value) (rw c.in-Some.is at c.in_ok-chain_to.ensures.chain) in
    part_added (graph_of c.args.graph.now) c.requires.well_formed c.args.right c.args.search.now.start c.args.y c.in-Some.chain.holder c.as_slice.result.now c.args.rules.now.items c.carry.new.rules.items c.args.next c.in_ok-last-in-Some.last way (omega (arith, c.requires.small, length-keys_of c.args.graph.now)) c.in_ok-last-in-Some.ensures
