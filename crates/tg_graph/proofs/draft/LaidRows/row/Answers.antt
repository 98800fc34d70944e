use Rattle.std.proofs.Common.{◌∙◌, ap, bytes_eq, Some}
use Rattle.std.specs.Map.{lookup}
use Rattle.tg_graph.specs.Drafts.{laid_over}
use Rattle.tg_graph.proofs.Drafts.{laid-there, laid-below}
use Rattle.tg_graph.proofs.draft.LaidRows.row.Goals as goal

pub returns-in-Some : goal.returns-in-Some
returns-in-Some c =
    let base = c.args.self.now.base.now in
    ap Some c.edges.ensures
    ∙ laid-there base c.draft.inside.rows.entries c.args.x c.draft.invariant.rows.apart c.in-Some.row.now c.in-Some.ensures.value
    ∙ ap (λ d. lookup (bytes_eq c.args.x) (laid_over base d)) c.draft.view_is

pub returns-in-None : goal.returns-in-None
returns-in-None c =
    let base = c.args.self.now.base.now in
    c.row.ensures
    ∙ laid-below base c.draft.inside.rows.entries c.args.x c.draft.invariant.rows.apart c.in-None.ensures.value
    ∙ ap (λ d. lookup (bytes_eq c.args.x) (laid_over base d)) c.draft.view_is
