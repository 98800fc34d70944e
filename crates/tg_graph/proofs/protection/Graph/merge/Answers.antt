use Rattle.std.proofs.Common.{◌∙◌, sym, ap, subst, length, arith, bytes_eq}
use Rattle.indexmap.specs.IndexMap.{insert_all}
use Rattle.tg_rows.specs.Rows.{IsGraph}
use Rattle.tg_graph.specs.Drafts.{Fits}
use Rattle.tg_graph.proofs.Drafts.{whole-graph, length-laid}
use Rattle.tg_graph.proofs.protection.Graph.merge.Goals as goal

pub put_all-requires : goal.put_all-requires
put_all-requires c =
    let base = c.self.inside.rows.entries in
    let changes = c.draft.inside.rows.entries in
    let same = c.in-Ok.ensures.entries in
    let f = subst (Fits base) (sym c.draft.view_is) (subst (λ es. Fits es c.args.draft) (sym c.self.view_is) c.requires) in
    record { room = omega (arith, ap (λ es. length (insert_all bytes_eq es changes)) same, ap length same, length-laid base (changes, c.draft.inside.created.items) f, ap (λ d. length d.1) c.draft.view_is, c.in-Ok.ensures.ok, c.created.ensures.value) }

pub invariant_of-self : goal.invariant_of-self
invariant_of-self c =
    let base = c.self.inside.rows.entries in
    let changes = c.draft.inside.rows.entries in
    let f = subst (Fits base) (sym c.draft.view_is) (subst (λ es. Fits es c.args.draft) (sym c.self.view_is) c.requires) in
    subst IsGraph (sym (c.put_all.ensures ∙ ap (λ es. insert_all bytes_eq es changes) c.in-Ok.ensures.entries))
    (whole-graph base c.self.invariant changes c.draft.invariant.rows c.draft.inside.created.items f)
