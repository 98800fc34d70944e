use Rattle.std.proofs.Common.{◌≡◌, ◌<◌, ◌↔◌, IsTrue, ℕ, List, Some, length, slice_get, subst, ◌∙◌}
use Rattle.tg_names.specs.Names.{Name}
use Rattle.tg_graph.specs.GraphOf.{graph_of}
use Rattle.tg_analysis.specs.Cases.{CannotShare, FindsFirst, StandsAt}
use Rattle.tg_policies.specs.Policies.{stands_for}
use Rattle.tg_policies.specs.PolicyParts.{membership}
use Rattle.tg_policies.proofs.FirstBreaks.{found-vertices, known-named, may-verdict, stands-as-vertex, strict-names}
use Rattle.tg_policies.proofs.verdicts.may_break.Goals as goal

pub places_of-requires-clause-order : goal.places_of-requires-clause-order
places_of-requires-clause-order c = strict-names (graph_of c.args.index.now.graph) c.names.result.now (c.names.ensures ∙ c.requires.names)

pub places_of-requires-clause-known : goal.places_of-requires-clause-known
places_of-requires-clause-known c = known-named (graph_of c.args.index.now.graph) c.names.result.now (c.names.ensures ∙ c.requires.names) c.args.operands.0 c.requires.first

pub places_of-requires-2-clause-order : goal.places_of-requires-2-clause-order
places_of-requires-2-clause-order c = strict-names (graph_of c.args.index.now.graph) c.names-2.result.now (c.names-2.ensures ∙ c.requires.names)

pub places_of-requires-2-clause-known : goal.places_of-requires-2-clause-known
places_of-requires-2-clause-known c = known-named (graph_of c.args.index.now.graph) c.names-2.result.now (c.names-2.ensures ∙ c.requires.names) c.args.operands.1 c.requires.second

pub first_unshared-requires-clause-xs : goal.first_unshared-requires-clause-xs
first_unshared-requires-clause-xs c = λ i place h.
    subst (λ (l : List Name). place < length l) c.names.ensures (c.in_ok-xs.ensures.within i place (subst (λ (l : List ℕ). slice_get l i ≡ Some place) c.deref.ensures.value h))

pub first_unshared-requires-clause-ys : goal.first_unshared-requires-clause-ys
first_unshared-requires-clause-ys c = λ i place h.
    subst (λ (l : List Name). place < length l) c.names-2.ensures (c.in_ok-ys.ensures.within i place (subst (λ (l : List ℕ). slice_get l i ≡ Some place) c.deref-2.ensures.value h))

pub returns-clause-verdict : goal.returns-clause-verdict
returns-clause-verdict c =
    let index = c.args.index.now in
    let g = graph_of index.graph in
    let names = index.names in
    let in_group = membership names c.args.groups.now in
    let xs = c.in_ok-xs.xs.items in
    let ys = c.in_ok-ys.ys.items in
    let found = c.in_ok-found.found in
    let claimed = CannotShare g in
    let same_x = subst (λ (l : List Name). (v : Name) → ((i : ℕ) × StandsAt l xs i v) ↔ IsTrue (stands_for (membership l c.args.groups.now) v c.args.operands.0)) c.names.ensures c.in_ok-xs.ensures.same in
    let same_y = subst (λ (l : List Name). (v : Name) → ((i : ℕ) × StandsAt l ys i v) ↔ IsTrue (stands_for (membership l c.args.groups.now) v c.args.operands.1)) c.names-2.ensures c.in_ok-ys.ensures.same in
    let one = subst (λ (l : List ℕ). FindsFirst claimed c.args.rights (StandsAt names l) (StandsAt names c.deref-2.result.now) found) c.deref.ensures.value c.in_ok-found.ensures in
    let all = subst (λ (l : List ℕ). FindsFirst claimed c.args.rights (StandsAt names xs) (StandsAt names l) found) c.deref-2.ensures.value one in
    may-verdict g in_group c.args.rights names c.requires.names c.args.operands.0 c.args.operands.1 xs ys c.in_ok-xs.ensures.rising c.in_ok-ys.ensures.rising same_x same_y found all

pub returns-clause-vertices : goal.returns-clause-vertices
returns-clause-vertices c =
    let index = c.args.index.now in
    let g = graph_of index.graph in
    found-vertices g (CannotShare g) c.args.rights (StandsAt index.names c.deref.result.now) (StandsAt index.names c.deref-2.result.now) c.in_ok-found.found c.in_ok-found.ensures (λ i v h. stands-as-vertex g index.names c.requires.names c.deref.result.now i v h) (λ i v h. stands-as-vertex g index.names c.requires.names c.deref-2.result.now i v h)
