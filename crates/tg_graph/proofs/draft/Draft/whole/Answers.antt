use Rattle.std.proofs.Common.{◌≡◌, ◌∙◌, sym, ap, subst, length, arith, bytes_eq}
use Rattle.indexmap.specs.IndexMap.{insert_all}
use Rattle.tg_rows.specs.Rows.{IsGraph}
use Rattle.tg_graph.specs.Drafts.{Fits}
use Rattle.tg_graph.proofs.Drafts.{whole-graph, length-laid}
use Rattle.tg_graph.proofs.draft.Draft.whole.Goals as goal

pub put_all-requires : goal.put_all-requires
put_all-requires c =
    let base = c.base.inside.rows.entries in
    let rows = c.self.inside.rows.entries in
    let same = c.in_ok-reserve.ensures.entries ∙ c.in_ok-rows.ensures in
    let f = subst (Fits base) (sym c.self.view_is) (subst (λ es. Fits es c.args.self.now) (sym c.base.view_is) c.requires) in
    let joined : length (insert_all bytes_eq c.reserve.new.self.entries c.in_ok-changes.changes.entries) ≡ length (insert_all bytes_eq base rows) = λ i. length (insert_all bytes_eq (same i) (c.in_ok-changes.ensures i)) in
    record { room = omega (arith, joined, ap length same, length-laid base (rows, c.self.inside.created.items) f, ap (λ d. length d.1) c.self.view_is, c.in_ok-reserve.ensures.ok, c.created.ensures.value) }

pub of_rows-requires : goal.of_rows-requires
of_rows-requires c =
    let base = c.base.inside.rows.entries in
    let rows = c.self.inside.rows.entries in
    let same = c.in_ok-reserve.ensures.entries ∙ c.in_ok-rows.ensures in
    let f = subst (Fits base) (sym c.self.view_is) (subst (λ es. Fits es c.args.self.now) (sym c.base.view_is) c.requires) in
    subst IsGraph (sym (c.put_all.ensures ∙ (λ i. insert_all bytes_eq (same i) (c.in_ok-changes.ensures i))))
    (whole-graph base c.base.invariant rows c.self.invariant.rows c.self.inside.created.items f)
