use Rattle.std.proofs.Common.{◌≡◌, ◌<◌, ◌↔◌, IsTrue, Bool, ℕ, List, Some, length, slice_get, subst, ◌∙◌}
use Rattle.tg_names.specs.declared.right_sets.Right.{Right}
use Rattle.tg_names.specs.Names.{Name}
use Rattle.tg_graph.specs.GraphOf.{graph_of}
use Rattle.tg_graph.specs.RuleLists.{CanShare}
use Rattle.tg_analysis.specs.Cases.{FindsFirst, StandsAt, StandsUnmarked}
use Rattle.tg_policies.specs.Policies.{some_stands_for, stands_for}
use Rattle.tg_policies.specs.PolicyParts.{is_marked_name, membership}
use Rattle.tg_policies.proofs.FirstBreaks.{found-vertices, known-all, known-named, only-verdict, stands-as-vertex, strict-names, unmarked-vertex}
use Rattle.tg_policies.proofs.verdicts.only_break.Goals as goal

pub places_of-requires-clause-order : goal.places_of-requires-clause-order
places_of-requires-clause-order c = strict-names (graph_of c.args.index.now.graph) c.names.result.now (c.names.ensures ∙ c.requires.names)

pub places_of-requires-clause-known : goal.places_of-requires-clause-known
places_of-requires-clause-known c = known-named (graph_of c.args.index.now.graph) c.names.result.now (c.names.ensures ∙ c.requires.names) c.args.targets c.requires.targets

pub marks_of-requires-clause-order : goal.marks_of-requires-clause-order
marks_of-requires-clause-order c = strict-names (graph_of c.args.index.now.graph) c.names-2.result.now (c.names-2.ensures ∙ c.requires.names)

pub marks_of-requires-clause-known : goal.marks_of-requires-clause-known
marks_of-requires-clause-known c = known-all (graph_of c.args.index.now.graph) c.names-2.result.now (c.names-2.ensures ∙ c.requires.names) c.args.others.now c.requires.others

pub first_beyond-requires : goal.first_beyond-requires
first_beyond-requires c = λ i place h.
    subst (λ (l : List Name). place < length l) c.names.ensures (c.in_ok-ys.ensures.within i place (subst (λ (l : List ℕ). slice_get l i ≡ Some place) c.deref.ensures.value h))

pub returns-clause-verdict : goal.returns-clause-verdict
returns-clause-verdict c =
    let index = c.args.index.now in
    let g = graph_of index.graph in
    let names = index.names in
    let in_group = membership names c.args.groups.now in
    let ys = c.in_ok-ys.ys.items in
    let allowed = c.in_ok-allowed.allowed.items in
    let found = c.in_ok-found.found in
    let claimed = λ (right : Right) (x y : Name). CanShare g right x y in
    let same_y = subst (λ (l : List Name). (v : Name) → ((i : ℕ) × StandsAt l ys i v) ↔ IsTrue (stands_for (membership l c.args.groups.now) v c.args.targets)) c.names.ensures c.in_ok-ys.ensures.same in
    let same = subst (λ (l : List Name). (v : Name) → is_marked_name l allowed v ≡ some_stands_for (membership l c.args.groups.now) c.args.others.now v) c.names-2.ensures c.in_ok-allowed.ensures.each in
    let one = subst (λ (l : List ℕ). FindsFirst claimed c.args.rights (StandsUnmarked names c.deref-2.result.now) (StandsAt names l) found) c.deref.ensures.value c.in_ok-found.ensures in
    let all = subst (λ (l : List Bool). FindsFirst claimed c.args.rights (StandsUnmarked names l) (StandsAt names ys) found) c.deref-2.ensures.value one in
    only-verdict g in_group c.args.rights names c.requires.names c.args.targets c.args.others.now ys allowed c.in_ok-ys.ensures.rising same_y same found all

pub returns-clause-vertices : goal.returns-clause-vertices
returns-clause-vertices c =
    let index = c.args.index.now in
    let g = graph_of index.graph in
    found-vertices g (λ (right : Right) (x y : Name). CanShare g right x y) c.args.rights (StandsUnmarked index.names c.deref-2.result.now) (StandsAt index.names c.deref.result.now) c.in_ok-found.found c.in_ok-found.ensures (λ i v h. unmarked-vertex g index.names c.requires.names c.deref-2.result.now i v h) (λ i v h. stands-as-vertex g index.names c.requires.names c.deref.result.now i v h)
