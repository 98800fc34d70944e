use Rattle.std.proofs.Common.{◌≡◌, [], rules, ◌≤◌, List, length, refl, sym, subst, arith}
use Rattle.std.proofs.lemmas.Option.{slice_get_read}
use Rattle.tg_names.specs.Names.{Name}
use Rattle.tg_cuts.specs.CutParts.{free_of, AreSources}
use Rattle.tg_cuts.proofs.LossRules.{up-none, up-more, up-whole, name-known}
use Rattle.tg_cuts.proofs.losses.Freed.rules.Goals as goal

-- the names as the loop reads them
names_are : (c : goal.In_ok-add_source) → AreSources c.args.graph.now c.deref-source-items.result.now
names_are c = subst (λ (names : List Name). AreSources c.args.graph.now names) (sym c.deref-source-items.ensures.value) c.in_ok-names.ensures

pub loop-source-init : goal.loop-source-init
loop-source-init c =
    let freed = c.args.self.now in
    let names = c.deref-source-items.result.now in
    let are = subst (λ (ns : List Name). AreSources c.args.graph.now ns) (sym c.deref-source-items.ensures.value) c.in_ok-names.ensures in
    let none : c.new-rules.result.items ≡ [] = search rules in
    up-none c.args.graph.now c.len.ensures.graph freed.right freed.y (free_of c.args.graph.now freed.beyond.now) names are c.new-rules.result.items none

pub add_source-requires-clause-graph : goal.add_source-requires-clause-graph
add_source-requires-clause-graph c = c.len.ensures.graph

pub add_source-requires-clause-known : goal.add_source-requires-clause-known
add_source-requires-clause-known c =
    let freed = c.args.self.now in
    let names = c.deref-source-items.result.now in
    let are = subst (λ (ns : List Name). AreSources c.args.graph.now ns) (sym c.deref-source-items.ensures.value) c.in_ok-names.ensures in
    let at = slice_get_read names (length names) c.loop-source.source-index c.source-item.result refl c.loop-source-test.true c.source-item.is in
    name-known c.args.graph.now c.len.ensures.graph freed.right freed.y (free_of c.args.graph.now freed.beyond.now) names are c.loop-source.source-index c.source-item.result at

pub loop-source-preserved : goal.loop-source-preserved
loop-source-preserved c =
    let freed = c.args.self.now in
    let names = c.deref-source-items.result.now in
    let at = slice_get_read names (length names) c.loop-source.source-index c.source-item.result refl c.loop-source-test.true c.source-item.is in
    up-more c.args.graph.now c.len.ensures.graph freed.right freed.y (free_of c.args.graph.now freed.beyond.now) names (names_are c) c.loop-source.source-index c.source-item.result c.loop-source.rules.items c.add_source.new.rules.items at c.loop-source.invariant c.in_ok-add_source.ensures

pub returns : goal.returns
returns c =
    let freed = c.args.self.now in
    let names = c.deref-source-items.result.now in
    let are = subst (λ (ns : List Name). AreSources c.args.graph.now ns) (sym c.deref-source-items.ensures.value) c.in_ok-names.ensures in
    let all : length names ≤ c.loop-source.source-index = omega arith in
    up-whole c.args.graph.now c.len.ensures.graph freed.right freed.y (free_of c.args.graph.now freed.beyond.now) names are c.loop-source.source-index c.loop-source.rules.items c.len.ensures.well_formed all c.loop-source.invariant
