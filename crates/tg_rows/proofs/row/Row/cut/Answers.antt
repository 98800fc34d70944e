use Rattle.std.proofs.Common.{◌≡◌, sym, ap, subst, ◌∙◌, None, bytes_eq, cond}
use Rattle.std.specs.List.{remove}
use Rattle.std.specs.Map.{lookup}
use Rattle.std.proofs.lemmas.Result.{on_ok_weaker}
use Rattle.tg_rows.specs.Rows.{IsRow, IsPlaceOf}
use Rattle.tg_rows.proofs.Places.{row-remove, puts-remove}
use Rattle.tg_rows.proofs.Rows.{on_either}
use Rattle.tg_rows.proofs.row.Row.cut.Goals as goal

pub invariant_of-self : goal.invariant_of-self
invariant_of-self c =
    on_either c.remove.result
    (λ (e : c.remove.new.self ≡ remove c.self.inside.edges c.args.place). subst IsRow (sym e) (row-remove c.self.inside.edges c.args.y c.args.place c.self.invariant (subst (λ row. IsPlaceOf row c.args.y c.args.place) (sym c.self.view_is) c.requires)))
    (λ (e : c.remove.new.self ≡ c.self.inside.edges). subst IsRow (sym e) c.self.invariant)
    c.remove.ensures.removed c.remove.ensures.err

pub returns-clause-row : goal.returns-clause-row
returns-clause-row c =
    on_either c.remove.result
    (λ (e : c.remove.new.self ≡ remove c.self.inside.edges c.args.place). subst IsRow (sym e) (row-remove c.self.inside.edges c.args.y c.args.place c.self.invariant (subst (λ row. IsPlaceOf row c.args.y c.args.place) (sym c.self.view_is) c.requires)))
    (λ (e : c.remove.new.self ≡ c.self.inside.edges). subst IsRow (sym e) c.self.invariant)
    c.remove.ensures.removed c.remove.ensures.err

pub returns-clause-puts : goal.returns-clause-puts
returns-clause-puts c =
    on_ok_weaker c.remove.result
    (λ (e : c.remove.new.self ≡ remove c.self.inside.edges c.args.place). λ v.
    ap (lookup (bytes_eq v)) e
    ∙ puts-remove c.self.inside.edges c.args.y c.args.place c.self.invariant (subst (λ row. IsPlaceOf row c.args.y c.args.place) (sym c.self.view_is) c.requires) v
    ∙ ap (λ row. cond (bytes_eq c.args.y v) None (lookup (bytes_eq v) row)) c.self.view_is)
    c.remove.ensures.removed
