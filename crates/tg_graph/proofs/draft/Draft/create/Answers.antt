use Rattle.std.proofs.Common.{◌∙◌, sym, ap, subst, bytes_eq, ◌++◌, ◌∷◌, []}
use Rattle.std.specs.Map.{keys_of}
use Rattle.indexmap.specs.IndexMap.{insert_entry}
use Rattle.indexmap.specs.IndexSet.{insert_all}
use Rattle.tg_rows.specs.Rows.{is_known}
use Rattle.tg_graph.specs.GraphOf.{graph_of}
use Rattle.tg_graph.specs.Rules.{with_rights, with_vertex}
use Rattle.tg_graph.specs.Drafts.{Fits, AreRows, IsDraft, laid_over}
use Rattle.tg_graph.proofs.Drafts.{draft-created, keys-created, laid-creates, fits-creates}
use Rattle.tg_graph.proofs.draft.Draft.create.Goals as goal

pub invariant_of-self-2 : goal.invariant_of-self-2
invariant_of-self-2 c =
    let base = c.args.base.now in
    let n = c.args.n in
    let names = c.self.inside.created.items in
    let same = c.in_ok-reserve.ensures.entries in
    let mid = c.widen.new.rows.entries in
    let a = subst AreRows (sym same) c.self.invariant.rows in
    let f = subst (λ es. Fits base (es, names)) (sym same) (subst (Fits base) (sym c.self.view_is) c.requires.fits) in
    let last = c.put.ensures.put ∙ ap (insert_entry bytes_eq mid n) c.in_ok-row.ensures in
    let fresh = ap (λ es. is_known (laid_over base (es, names)) n) same ∙ ap (λ d. is_known (laid_over base d) n) c.self.view_is ∙ c.requires.fresh in
    let created = c.push_reserved.ensures.items ∙ ap (λ l. l ++ n ∷ []) c.in_ok-reserve-2.ensures.items in
    subst (λ l. IsDraft (c.put.new.rows.entries, l)) (sym created) (draft-created base c.len.ensures.graph c.reserve.new.self.entries a names f mid c.put.new.rows.entries c.args.x n c.args.rights c.in_ok-widen.ensures.widened last fresh c.as_bytes.ensures.valid)

pub returns-clause-created : goal.returns-clause-created
returns-clause-created c =
    let base = c.args.base.now in
    let n = c.args.n in
    let names = c.self.inside.created.items in
    let same = c.in_ok-reserve.ensures.entries in
    let mid = c.widen.new.rows.entries in
    let a = subst AreRows (sym same) c.self.invariant.rows in
    let f = subst (λ es. Fits base (es, names)) (sym same) (subst (Fits base) (sym c.self.view_is) c.requires.fits) in
    let last = c.put.ensures.put ∙ ap (insert_entry bytes_eq mid n) c.in_ok-row.ensures in
    let fresh = ap (λ es. is_known (laid_over base (es, names)) n) same ∙ ap (λ d. is_known (laid_over base d) n) c.self.view_is ∙ c.requires.fresh in
    laid-creates base c.len.ensures.graph c.reserve.new.self.entries a names f mid c.put.new.rows.entries c.args.x n c.args.rights c.in_ok-widen.ensures.widened last fresh c.as_bytes.ensures.valid
    ∙ ap (λ es. with_rights (with_vertex (graph_of (laid_over base (es, names))) n) c.args.x n c.args.rights) same
    ∙ ap (λ d. with_rights (with_vertex (graph_of (laid_over base d)) n) c.args.x n c.args.rights) c.self.view_is

pub returns-clause-rows : goal.returns-clause-rows
returns-clause-rows c =
    let base = c.args.base.now in
    let n = c.args.n in
    let names = c.self.inside.created.items in
    let same = c.in_ok-reserve.ensures.entries in
    let mid = c.widen.new.rows.entries in
    let a = subst AreRows (sym same) c.self.invariant.rows in
    let f = subst (λ es. Fits base (es, names)) (sym same) (subst (Fits base) (sym c.self.view_is) c.requires.fits) in
    let last = c.put.ensures.put ∙ ap (insert_entry bytes_eq mid n) c.in_ok-row.ensures in
    let fresh = ap (λ es. is_known (laid_over base (es, names)) n) same ∙ ap (λ d. is_known (laid_over base d) n) c.self.view_is ∙ c.requires.fresh in
    keys-created base c.len.ensures.graph c.reserve.new.self.entries a names f mid c.put.new.rows.entries c.args.x n c.args.rights c.in_ok-widen.ensures.widened last fresh c.as_bytes.ensures.valid
    ∙ ap (λ es. insert_all bytes_eq (keys_of es) (c.args.x ∷ n ∷ [])) same
    ∙ ap (λ d. insert_all bytes_eq (keys_of d.0) (c.args.x ∷ n ∷ [])) c.self.view_is

pub returns-clause-fits : goal.returns-clause-fits
returns-clause-fits c =
    let base = c.args.base.now in
    let n = c.args.n in
    let names = c.self.inside.created.items in
    let same = c.in_ok-reserve.ensures.entries in
    let mid = c.widen.new.rows.entries in
    let a = subst AreRows (sym same) c.self.invariant.rows in
    let f = subst (λ es. Fits base (es, names)) (sym same) (subst (Fits base) (sym c.self.view_is) c.requires.fits) in
    let last = c.put.ensures.put ∙ ap (insert_entry bytes_eq mid n) c.in_ok-row.ensures in
    let fresh = ap (λ es. is_known (laid_over base (es, names)) n) same ∙ ap (λ d. is_known (laid_over base d) n) c.self.view_is ∙ c.requires.fresh in
    let created = c.push_reserved.ensures.items ∙ ap (λ l. l ++ n ∷ []) c.in_ok-reserve-2.ensures.items in
    subst (λ l. Fits base (c.put.new.rows.entries, l)) (sym created) (fits-creates base c.len.ensures.graph c.reserve.new.self.entries a names f mid c.put.new.rows.entries c.args.x n c.args.rights c.in_ok-widen.ensures.widened last fresh c.as_bytes.ensures.valid)
