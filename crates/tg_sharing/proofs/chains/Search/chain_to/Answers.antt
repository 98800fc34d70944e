use Rattle.std.proofs.Common.{◌<◌, length, sym, ◌∙◌, subst, arith}
use Rattle.std.proofs.lemmas.Option.{slice_get_within}
use Rattle.std.specs.Map.{keys_of}
use Rattle.tg_names.specs.Names.{Name}
use Rattle.tg_graph.specs.GraphOf.{graph_of}
use Rattle.tg_islands.specs.Sharing.{HeldInIsland}
use Rattle.tg_sharing.specs.Searches.{IsWay}
use Rattle.tg_sharing.proofs.Searched.{visit-key, none_unless, few-met, holder-none, holder-next, searched-to, searched-whole, searches-same, searches-then}
use Rattle.tg_sharing.proofs.Ways.{backwards, way-is}
use Rattle.tg_sharing.proofs.chains.Search.chain_to.Goals as goal

pub loop-visit-init : goal.loop-visit-init
loop-visit-init c = record {
  on = searches-same (graph_of c.args.graph.now) c.args.self.now c.requires.searching;
  none = holder-none (graph_of c.args.graph.now) c.args.right c.args.y c.args.self.now.met;
  behind = omega arith;
}

pub way_back-requires : goal.way_back-requires
way_back-requires c = backwards (graph_of c.args.graph.now) c.loop-visit.self.met c.loop-visit.invariant.on.searching.is_search

pub returns-then-holds : goal.returns-then-holds
returns-then-holds c =
    let visit = c.in-Some.visit in
    let on = c.loop-visit.invariant.on in
    let is = on.searching in
    let graph = graph_of c.args.graph.now in
    let met = c.loop-visit.self.met in
    record {
      on = on;
      chain = subst (λ (x : Name). IsWay graph c.args.right x c.args.y visit.0 c.in_ok-way_back.field-0.items) on.start (way-is graph met is.is_search c.at.ensures.apart c.loop-visit.self.start is.first c.args.right c.args.y visit.0 c.loop-visit.place c.loop-visit.self.rounds visit.1 c.in_ok-way_back.field-0.items (sym c.at.ensures.value ∙ c.in-Some.is) (sym c.holds.ensures ∙ c.if-holds.true) is.order (searched-to graph c.args.right c.args.y met c.loop-visit.place c.loop-visit.self.rounds c.loop-visit.invariant.none c.loop-visit.invariant.behind is.round) c.in_ok-way_back.ensures);
    }

pub follow-requires-clause-searching : goal.follow-requires-clause-searching
follow-requires-clause-searching c = c.loop-visit.invariant.on.searching

pub follow-requires-clause-here : goal.follow-requires-clause-here
follow-requires-clause-here c = visit-key c.loop-visit.self.met c.loop-visit.place c.in-Some.visit (sym c.at.ensures.value ∙ c.in-Some.is)

pub follow-requires-clause-small : goal.follow-requires-clause-small
follow-requires-clause-small c = omega (arith, slice_get_within c.loop-visit.self.met c.loop-visit.place c.in-Some.visit (sym c.at.ensures.value ∙ c.in-Some.is), c.at.ensures.small)

pub overflow_add-place : goal.overflow_add-place
overflow_add-place c = omega (arith, slice_get_within c.loop-visit.self.met c.loop-visit.place c.in-Some.visit (sym c.at.ensures.value ∙ c.in-Some.is), c.at.ensures.small)

pub loop-visit-smaller : goal.loop-visit-smaller
loop-visit-smaller c =
    let few : c.loop-visit.place < length (keys_of c.args.graph.now) = few-met (graph_of c.args.graph.now) c.loop-visit.self.met c.loop-visit.invariant.on.searching.is_search c.at.ensures.apart c.loop-visit.place c.in-Some.visit (sym c.at.ensures.value ∙ c.in-Some.is) in
    omega arith

pub loop-visit-preserved : goal.loop-visit-preserved
loop-visit-preserved c = record {
  on = searches-then (graph_of c.args.graph.now) c.args.self.now c.loop-visit.self c.follow.new.self c.loop-visit.invariant.on c.in_ok-follow.ensures.on;
  none = holder-next (graph_of c.args.graph.now) c.args.right c.args.y c.loop-visit.self.met c.follow.new.self.met c.loop-visit.place c.in-Some.visit c.loop-visit.invariant.none (sym c.at.ensures.value ∙ c.in-Some.is) (sym c.holds.ensures ∙ c.if-holds.false) c.in_ok-follow.ensures.on.grows;
  behind = c.in_ok-follow.ensures.beyond;
}

pub returns : goal.returns
returns c =
    let on = c.loop-visit.invariant.on in
    let is = on.searching in
    let graph = graph_of c.args.graph.now in
    let met = c.loop-visit.self.met in
    record {
      on = on;
      chain = subst (λ (x : Name). HeldInIsland graph c.args.right x c.args.y → ⊥) on.start (searched-whole graph c.args.right c.args.y c.loop-visit.self.start met c.loop-visit.place (searched-to graph c.args.right c.args.y met c.loop-visit.place c.loop-visit.self.rounds c.loop-visit.invariant.none c.loop-visit.invariant.behind is.round) (sym c.at.ensures.value ∙ none_unless c.at.result c.in_default.not-Some) is.first);
    }
