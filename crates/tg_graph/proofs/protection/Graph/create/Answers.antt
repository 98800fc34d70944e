use Rattle.std.proofs.Common.{◌∙◌, sym, ap, subst, bytes_eq, ◌++◌, ◌∷◌, []}
use Rattle.std.specs.List.{list_any}
use Rattle.tg_rows.specs.Rows.{IsGraph, is_known}
use Rattle.tg_graph.specs.GraphOf.{graph_of}
use Rattle.tg_graph.specs.Rules.{with_rights, with_vertex}
use Rattle.tg_graph.proofs.Graphs.{alters, graph-creates, is_graph-creates, keys-changed}
use Rattle.tg_graph.proofs.Drafts.{put-new}
use Rattle.tg_graph.proofs.protection.Graph.create.Goals as goal

pub invariant_of-self-2 : goal.invariant_of-self-2
invariant_of-self-2 c =
    let n = c.args.n in
    let same = c.in_ok-reserve.ensures.entries in
    let known = ap (λ es. is_known es n) (same ∙ c.self.view_is) ∙ c.requires.fresh in
    let fresh = ap (list_any (bytes_eq n)) (keys-changed c.reserve.new.self.entries c.widen.new.rows.entries c.args.x (alters c.in_ok-widen.ensures.widened)) ∙ known in
    let last = c.put.ensures.put ∙ put-new c.widen.new.rows.entries n c.in_ok-row.row fresh in
    subst IsGraph (sym (last ∙ (λ i. c.widen.new.rows.entries ++ (n, c.in_ok-row.ensures i) ∷ [])))
    (is_graph-creates n c.args.x c.args.rights c.reserve.new.self.entries c.widen.new.rows.entries (alters c.in_ok-widen.ensures.widened)
    (subst IsGraph (sym same) c.self.invariant) known c.as_bytes.ensures.valid)

pub returns-clause-created : goal.returns-clause-created
returns-clause-created c =
    let n = c.args.n in
    let same = c.in_ok-reserve.ensures.entries in
    let known = ap (λ es. is_known es n) (same ∙ c.self.view_is) ∙ c.requires.fresh in
    let fresh = ap (list_any (bytes_eq n)) (keys-changed c.reserve.new.self.entries c.widen.new.rows.entries c.args.x (alters c.in_ok-widen.ensures.widened)) ∙ known in
    let last = c.put.ensures.put ∙ put-new c.widen.new.rows.entries n c.in_ok-row.row fresh in
    ap graph_of (last ∙ (λ i. c.widen.new.rows.entries ++ (n, c.in_ok-row.ensures i) ∷ []))
    ∙ graph-creates n c.args.x c.args.rights c.reserve.new.self.entries c.widen.new.rows.entries (alters c.in_ok-widen.ensures.widened)
    ∙ ap (λ es. with_rights (with_vertex (graph_of es) n) c.args.x n c.args.rights) (c.in_ok-reserve.ensures.entries ∙ c.self.view_is)
