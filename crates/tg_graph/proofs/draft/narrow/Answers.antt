use Rattle.std.proofs.Common.{◌∙◌, sym, ap, bytes_eq}
use Rattle.std.specs.Map.{set_value}
use Rattle.indexmap.specs.IndexMap.{insert_entry}
use Rattle.std.proofs.lemmas.Map.Steps.{set_value_same}
use Rattle.std.proofs.lemmas.Result.{on_err_weaker}
use Rattle.tg_graph.proofs.Drafts.{known-below, puts-there, puts-first, on_ok_both}
use Rattle.tg_graph.proofs.draft.narrow.Goals as goal

pub row_of-requires : goal.row_of-requires
row_of-requires c = known-below c.args.base.now c.args.rows.now.entries c.args.x c.get_mut.ensures.unique c.in-None.ensures.value c.requires.known

pub returns-in-Some-clause-narrowed : goal.returns-in-Some-clause-narrowed
returns-in-Some-clause-narrowed c =
    on_ok_both c.take.result
    (puts-there c.args.base.now c.args.rows.now.entries c.args.x c.get_mut.ensures.unique (c.get_mut.follows.lender c.take.new.self).entries c.in-Some.row.now c.take.new.self c.in-Some.ensures.value (c.get_mut.follows.holds c.take.new.self).0)
    c.take.ensures.taken c.take.ensures.row

pub returns-in-Some-clause-err : goal.returns-in-Some-clause-err
returns-in-Some-clause-err c =
    let es = c.args.rows.now.entries in
    let test = bytes_eq c.args.x in
    on_err_weaker c.take.result (λ e. (c.get_mut.follows.holds c.take.new.self).0 ∙ ap (set_value test es) e ∙ set_value_same test es c.in-Some.row.now (sym c.in-Some.ensures.value)) c.take.ensures.err

pub returns-in_ok-insert-in-None-clause-narrowed : goal.returns-in_ok-insert-in-None-clause-narrowed
returns-in_ok-insert-in-None-clause-narrowed c =
    puts-first c.args.base.now c.args.rows.now.entries c.args.x c.get_mut.ensures.unique c.insert.new.self.entries c.in_ok-row-in-None.row c.take-in-None.new.self c.in-None.ensures.value c.in_ok-row-in-None.ensures.row (c.in_ok-insert-in-None.ensures.entries ∙ ap (λ m. insert_entry bytes_eq m.entries c.args.x c.take-in-None.new.self) c.get_mut.follows.holds-at-none) c.in_ok-take-in-None.ensures.taken c.in_ok-take-in-None.ensures.row
