use Rattle.std.proofs.Common.{List, ◌+◌, take, sym, subst, arith}
use Rattle.std.specs.Map.{keys_of}
use Rattle.tg_graph.specs.GraphOf.{graph_of}
use Rattle.tg_names.specs.Names.{Name}
use Rattle.tg_sharing.specs.Searches.{Visits, AreUnmet, Meets}
use Rattle.tg_islands.proofs.Places.{place-known}
use Rattle.tg_sharing.proofs.Rounds.{meets-none, meets-next, round-whole}
use Rattle.tg_sharing.proofs.chains.go_round.Goals as goal

pub unmet-requires-clause-known : goal.unmet-requires-clause-known
unmet-requires-clause-known c = c.requires.search.known c.args.vertex (place-known (keys_of c.args.met.now) c.args.place c.args.vertex c.requires.here)

pub loop-name-init : goal.loop-name-init
loop-name-init c = meets-none (graph_of c.args.graph.now) c.requires.well_formed c.args.vertex c.args.place c.args.met.now c.requires.search c.requires.order

-- the names as the loop reads them
names_are : (c : goal.In_ok-meet) → AreUnmet (graph_of c.args.graph.now) c.args.met.now c.args.vertex c.deref-name-items.result.now
names_are c = subst (λ (names : List Name). AreUnmet (graph_of c.args.graph.now) c.args.met.now c.args.vertex names) (sym c.deref-name-items.ensures.value) c.in_ok-names.ensures

pub loop-name-preserved : goal.loop-name-preserved
loop-name-preserved c =
    let graph = graph_of c.args.graph.now in
    let names = c.deref-name-items.result.now in
    let i = c.loop-name.name-index in
    subst (λ (met : Visits). Meets graph c.args.place c.args.met.now met (take (i + 1) names)) (sym c.in_ok-meet.ensures)
    (meets-next graph c.requires.well_formed c.args.vertex c.args.place c.args.met.now c.loop-name.met names i c.name-item.result c.requires.here (names_are c).joined (omega arith) c.name-item.is c.loop-name.invariant)

pub returns : goal.returns
returns c =
    let graph = graph_of c.args.graph.now in
    let unmet = subst (λ (names : List Name). AreUnmet graph c.args.met.now c.args.vertex names) (sym c.deref-name-items.ensures.value) c.in_ok-names.ensures in
    round-whole graph c.requires.well_formed c.args.vertex c.args.place c.args.met.now c.loop-name.met c.deref-name-items.result.now c.loop-name.name-index unmet (omega arith) c.loop-name.invariant
