use Rattle.std.proofs.Common.{sym, ap, not, is_some, ◌∙◌, subst, ◌≡◌, Some, bytes_eq, ⊎_elim, is_ok}
use Rattle.std.specs.Map.{lookup}
use Rattle.tg_names.specs.Sets.{nothing}
use Rattle.tg_rows.specs.Rows.{is_target, Adds, Puts}
use Rattle.tg_rows.proofs.Places.{gap-lookup, lookup-place}
use Rattle.tg_rows.proofs.Rows.{adds-new, on_err_from}
use Rattle.tg_rows.proofs.shared_row.SharedRow.add_new.Goals as goal

pub returns-in_err-row-in-Err-clause-absent : goal.returns-in_err-row-in-Err-clause-absent
returns-in_err-row-in-Err-clause-absent c =
    on_err_from c.from_residual.result (ap (λ row. is_target row c.args.y) (sym (c.deref.ensures ∙ c.self.view_is)) ∙ ap is_some (gap-lookup c.deref.result.now c.args.y _ c.in-Err.ensures.absent))

pub returns-in_err-insert-in-Err-clause-absent : goal.returns-in_err-insert-in-Err-clause-absent
returns-in_err-insert-in-Err-clause-absent c =
    on_err_from c.from_residual-in_err-insert-in-Err.result (ap (λ row. is_target row c.args.y) (sym (c.deref.ensures ∙ c.self.view_is)) ∙ ap is_some (gap-lookup c.deref.result.now c.args.y _ c.in-Err.ensures.absent))

pub returns-in-Ok-clause-said : goal.returns-in-Ok-clause-said
returns-in-Ok-clause-said c =
    sym (ap (λ row. not (is_target row c.args.y)) (sym (c.deref.ensures ∙ c.self.view_is)) ∙ ap (λ o. not (is_some o)) (lookup-place c.deref.result.now c.args.y _ (c.args.y, nothing) c.in-Ok.ensures.row.sorted c.in-Ok.ensures.found))

pub returns-in_ok-insert-in-Err-clause-said : goal.returns-in_ok-insert-in-Err-clause-said
returns-in_ok-insert-in-Err-clause-said c =
    sym (ap (λ row. not (is_target row c.args.y)) (sym (c.deref.ensures ∙ c.self.view_is)) ∙ ap (λ o. not (is_some o)) (gap-lookup c.deref.result.now c.args.y _ c.in-Err.ensures.absent))

pub returns-in_ok-insert-in-Err-clause-added : goal.returns-in_ok-insert-in-Err-clause-added
returns-in_ok-insert-in-Err-clause-added c =
    let y = c.args.y in
    let same = c.deref.ensures ∙ c.self.view_is in
    let was : c.in_ok-row-in-Err.row.now ≡ c.args.self.now = ⊎_elim (λ e. e ∙ c.self.view_is) (λ e. e ∙ c.self.view_is) c.in_ok-row-in-Err.ensures.value in
    let none = ap (lookup (bytes_eq y)) (sym same) ∙ gap-lookup c.deref.result.now y _ c.in-Err.ensures.absent in
    subst (λ row. Adds c.args.self.now row y c.args.rights) (sym (c.make_mut.follows.holds c.insert.new.self (ap is_ok c.in_ok-row-in-Err.was)))
    (adds-new c.args.self.now c.insert.new.self y c.args.rights none (subst (λ row. Puts row c.insert.new.self y (Some c.args.rights)) was c.in_ok-insert-in-Err.ensures.puts))
