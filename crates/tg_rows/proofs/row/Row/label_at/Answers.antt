use Rattle.std.proofs.Common.{[], sym, ap, subst, ◌∙◌, Some, IfSome, bytes_eq}
use Rattle.std.specs.Map.{lookup}
use Rattle.tg_names.specs.Sets.{nothing}
use Rattle.tg_rows.specs.Rows.{IsPlaceOf, IsLabel}
use Rattle.tg_rows.proofs.Places.{lookup-place}
use Rattle.tg_rows.proofs.row.Row.label_at.Goals as goal

pub returns-clause-found : goal.returns-clause-found
returns-clause-found c =
    ap (lookup (bytes_eq c.args.y)) (sym c.self.view_is)
    ∙ lookup-place c.self.inside.edges c.args.y c.args.place ([], nothing) c.self.invariant.sorted (subst (λ row. IsPlaceOf row c.args.y c.args.place) (sym c.self.view_is) c.requires)
    ∙ ap Some (sym (c.label.ensures ([], nothing)))

pub returns-clause-label : goal.returns-clause-label
returns-clause-label c =
    subst (λ o. IfSome o IsLabel)
    (lookup-place c.self.inside.edges c.args.y c.args.place ([], nothing) c.self.invariant.sorted (subst (λ row. IsPlaceOf row c.args.y c.args.place) (sym c.self.view_is) c.requires)
    ∙ ap Some (sym (c.label.ensures ([], nothing))))
    (c.self.invariant.labelled c.args.y)
