use Rattle.std.proofs.Common.{◌<◌, ◌^◌, length, sym, subst, ◌∙◌, arith, IfSome}
use Rattle.std.specs.Map.{keys_of}
use Rattle.std.proofs.lemmas.Map.Entries.{length-keys_of}
use Rattle.tg_graph.specs.GraphOf.{graph_of}
use Rattle.tg_graph.proofs.Positions.{at-position}
use Rattle.tg_islands.specs.Numbering.{AreIslands}
use Rattle.tg_index.specs.ByTarget.{AreListed, IsIndexOf}
use Rattle.tg_islands.proofs.Places.{position-none}
use Rattle.tg_index.proofs.ByTarget.{numbered, numbered-none, index-exact, scan-exact}
use Rattle.tg_index.proofs.sharing_index.SharingIndex.answer.Goals as goal

pub unreachable-requires-in_default-number_of : goal.unreachable-requires-in_default-number_of
unreachable-requires-in_default-number_of c =
    let index = subst (IsIndexOf c.args.graph.now) (sym c.self.view_is) c.requires.index in
    let are = subst (λ o. IfSome o (AreIslands (graph_of c.args.graph.now))) c.in-Some.is index.islands in
    numbered-none c.args.graph.now c.in-Some.islands are.len c.args.x c.requires.source (sym c.number_of.ensures ∙ c.in_default-number_of.is)

pub unreachable-requires-in_default-position : goal.unreachable-requires-in_default-position
unreachable-requires-in_default-position c = position-none (keys_of c.args.graph.now) c.args.y c.requires.target (sym c.position.ensures ∙ c.in_default-position.is)

pub returns-in-Some-edges-clause-exact : goal.returns-in-Some-edges-clause-exact
returns-in-Some-edges-clause-exact c =
    let g = c.args.graph.now in
    let index = subst (IsIndexOf g) (sym c.self.view_is) c.requires.index in
    let are = subst (λ o. IfSome o (AreIslands (graph_of g))) c.in-Some.is index.islands in
    let few : length (keys_of g) < 2 ^ 64 = omega (arith, c.len.type_inv, c.len.ensures.value, length-keys_of g) in
    let from = numbered g c.in-Some.islands are.len c.args.x c.in-Some-number_of.number (sym c.number_of.ensures ∙ c.in-Some-number_of.is) in
    let listed = subst (λ o. IfSome o (AreListed g)) c.in-Some-edges.is index.listed in
    let exact = index-exact g c.len.ensures.graph c.len.ensures.well_formed c.shared_exactly.ensures few c.in-Some.islands are c.args.right from.0 c.in-Some-position.to c.args.x c.args.y (at-position (keys_of g) c.args.x from.0 from.1) (at-position (keys_of g) c.args.y c.in-Some-position.to (sym c.position.ensures ∙ c.in-Some-position.is)) c.in-Some-number_of.number from.2 c.in-Some-edges.edges listed in
    (λ yes. exact.0 (c.leads.ensures.0 yes), λ shared. c.leads.ensures.1 (exact.1 shared))

pub returns-in-None-clause-exact : goal.returns-in-None-clause-exact
returns-in-None-clause-exact c =
    let g = c.args.graph.now in
    let index = subst (IsIndexOf g) (sym c.self.view_is) c.requires.index in
    let are = subst (λ o. IfSome o (AreIslands (graph_of g))) c.in-Some.is index.islands in
    let few : length (keys_of g) < 2 ^ 64 = omega (arith, c.len.type_inv, c.len.ensures.value, length-keys_of g) in
    let from = numbered g c.in-Some.islands are.len c.args.x c.in-Some-number_of.number (sym c.number_of.ensures ∙ c.in-Some-number_of.is) in
    let exact = scan-exact g c.len.ensures.graph c.len.ensures.well_formed c.shared_exactly.ensures few c.in-Some.islands are c.args.right from.0 c.in-Some-position.to c.args.x c.args.y (at-position (keys_of g) c.args.x from.0 from.1) (at-position (keys_of g) c.args.y c.in-Some-position.to (sym c.position.ensures ∙ c.in-Some-position.is)) c.in-Some-number_of.number from.2 in
    (λ yes. exact.0 (c.holds_in.ensures.0 yes), λ shared. c.holds_in.ensures.1 (exact.1 shared))
