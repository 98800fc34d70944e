use Rattle.std.proofs.Common.{sym, subst, ap, length, arith}
use Rattle.tg_rows.specs.Rows.{IsGraph}
use Rattle.tg_graph.specs.Drafts.{Fits}
use Rattle.tg_graph.proofs.Drafts.{whole-graph, length-laid}
use Rattle.tg_graph.proofs.draft.Ready.merge.Goals as goal

pub put_all-requires : goal.put_all-requires
put_all-requires c =
    let base = c.self.inside.rows.entries in
    let f = subst (Fits base) (sym c.draft.view_is) c.self.invariant.1 in
    record { room = omega (arith, length-laid base (c.draft.inside.rows.entries, c.draft.inside.created.items) f, ap (λ d. length d.1) c.draft.view_is, c.self.invariant.2) }

pub of_rows-requires : goal.of_rows-requires
of_rows-requires c =
    let base = c.self.inside.rows.entries in
    let f = subst (Fits base) (sym c.draft.view_is) c.self.invariant.1 in
    subst IsGraph (sym c.put_all.ensures) (whole-graph base c.self.invariant.0 c.draft.inside.rows.entries c.draft.invariant.rows c.draft.inside.created.items f)
