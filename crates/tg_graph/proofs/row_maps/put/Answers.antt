use Rattle.std.proofs.Common.{◌∙◌, ap, sym, subst, is_some, bytes_eq, ◌<◌}
use Rattle.std.proofs.lemmas.Map.Made.{is_some-lookup}
use Rattle.indexmap.specs.IndexMap.{spare, insert_entry}
use Rattle.tg_rows.proofs.Rows.{on_ok-is}
use Rattle.tg_graph.proofs.Drafts.{put-set}
use Rattle.tg_graph.proofs.row_maps.put.Goals as goal

pub returns-in-Some-clause-put : goal.returns-in-Some-clause-put
returns-in-Some-clause-put c =
    let es = c.args.rows.now.entries in
    (c.get_mut.follows.holds c.args.row).0
    ∙ put-set es c.args.n c.args.row (sym (is_some-lookup (bytes_eq c.args.n) es) ∙ sym (ap is_some c.in-Some.ensures.value))

pub returns-in-None-clause-put : goal.returns-in-None-clause-put
returns-in-None-clause-put c =
    let es = c.args.rows.now.entries in
    let new = sym (is_some-lookup (bytes_eq c.args.n) es) ∙ sym (ap is_some c.in-None.ensures.value) in
    on_ok-is c.insert.result (c.insert.ensures.succeeds (subst (λ m. 0 < spare m) (sym c.get_mut.follows.holds-at-none) (c.requires.room new))) c.insert.ensures.entries
    ∙ ap (λ m. insert_entry bytes_eq m.entries c.args.n c.args.row) c.get_mut.follows.holds-at-none
