use Rattle.std.proofs.Common.{◌∙◌, sym, ap, subst, bytes_eq}
use Rattle.std.specs.Map.{keys_of}
use Rattle.indexmap.specs.IndexSet.{insert_key}
use Rattle.tg_rows.specs.Rows.{is_known}
use Rattle.tg_graph.specs.GraphOf.{graph_of}
use Rattle.tg_graph.specs.Rules.{with_rights}
use Rattle.tg_graph.specs.Drafts.{Fits, laid_over}
use Rattle.tg_graph.proofs.Drafts.{laid-adds, fits-adds, draft-adds, keys-row}
use Rattle.tg_graph.proofs.draft.Draft.give.Goals as goal

pub invariant_of-self-2 : goal.invariant_of-self-2
invariant_of-self-2 c =
    let base = c.args.base.now in
    let f = subst (Fits base) (sym c.self.view_is) c.requires.fits in
    draft-adds base c.len.ensures.graph c.self.inside.rows.entries c.self.invariant.rows c.self.inside.created.items f c.widen.new.rows.entries c.args.x c.args.y c.args.rights c.in_ok-widen.ensures.widened (ap (λ d. is_known (laid_over base d) c.args.y) c.self.view_is ∙ c.requires.target)

pub returns-clause-given : goal.returns-clause-given
returns-clause-given c =
    let base = c.args.base.now in
    let f = subst (Fits base) (sym c.self.view_is) c.requires.fits in
    laid-adds base c.len.ensures.graph c.self.inside.rows.entries c.self.invariant.rows c.self.inside.created.items f c.widen.new.rows.entries c.args.x c.args.y c.args.rights c.in_ok-widen.ensures.widened
    ∙ ap (λ d. with_rights (graph_of (laid_over base d)) c.args.x c.args.y c.args.rights) c.self.view_is

pub returns-clause-rows : goal.returns-clause-rows
returns-clause-rows c =
    let base = c.args.base.now in
    let f = subst (Fits base) (sym c.self.view_is) c.requires.fits in
    keys-row base c.len.ensures.graph c.self.inside.rows.entries c.self.invariant.rows c.self.inside.created.items f c.widen.new.rows.entries c.args.x c.in_ok-widen.ensures.widened
    ∙ ap (λ d. insert_key bytes_eq (keys_of d.0) c.args.x) c.self.view_is

pub returns-clause-fits : goal.returns-clause-fits
returns-clause-fits c =
    let base = c.args.base.now in
    let f = subst (Fits base) (sym c.self.view_is) c.requires.fits in
    fits-adds base c.len.ensures.graph c.self.inside.rows.entries c.self.invariant.rows c.self.inside.created.items f c.widen.new.rows.entries c.args.x c.args.y c.args.rights c.in_ok-widen.ensures.widened (ap (λ d. is_known (laid_over base d) c.args.y) c.self.view_is ∙ c.requires.target)
