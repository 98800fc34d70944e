use Rattle.std.proofs.Common.{◌∙◌, sym, ap, subst, ◌++◌, ◌∷◌, []}
use Rattle.tg_rows.specs.Rows.{IsGraph, is_known}
use Rattle.tg_graph.specs.GraphOf.{graph_of}
use Rattle.tg_graph.proofs.Graphs.{graph-pushed, is_graph-new_vertex}
use Rattle.tg_graph.proofs.Drafts.{put-new}
use Rattle.tg_graph.proofs.protection.Graph.add_vertex.Goals as goal

pub invariant_of-self-2 : goal.invariant_of-self-2
invariant_of-self-2 c =
    let n = c.args.n in
    let same = c.in_ok-reserve.ensures.entries in
    let fresh = ap (λ es. is_known es n) c.self.view_is ∙ sym c.knows.ensures ∙ c.if-knows.false in
    let last = c.put.ensures.put ∙ put-new c.reserve.new.self.entries n c.in_ok-row.row (ap (λ es. is_known es n) same ∙ fresh) in
    subst IsGraph (sym (last ∙ (λ i. same i ++ (n, c.in_ok-row.ensures i) ∷ [])))
    (is_graph-new_vertex n c.self.inside.rows.entries c.self.invariant fresh c.as_bytes.ensures.valid)

pub returns-clause-added : goal.returns-clause-added
returns-clause-added c =
    let n = c.args.n in
    let same = c.in_ok-reserve.ensures.entries in
    let fresh = sym c.knows.ensures ∙ c.if-knows.false in
    let last = c.put.ensures.put ∙ put-new c.reserve.new.self.entries n c.in_ok-row.row (ap (λ es. is_known es n) (same ∙ c.self.view_is) ∙ fresh) in
    (fresh, ap graph_of (last ∙ (λ i. (same ∙ c.self.view_is) i ++ (n, c.in_ok-row.ensures i) ∷ [])) ∙ graph-pushed n c.args.self.now)
