use Rattle.std.proofs.Common.{◌≡◌, [], set, sym, ap, subst, ◌∙◌, Some, bytes_eq, cond}
use Rattle.std.specs.Map.{lookup}
use Rattle.tg_names.specs.Sets.{nothing}
use Rattle.tg_rows.specs.Rows.{IsRow, IsPlaceOf}
use Rattle.tg_rows.proofs.Places.{row-set, puts-set}
use Rattle.tg_rows.proofs.row.Row.write.Goals as goal

-- the place is that of y before the change, too
at_place : (c : goal.After-set_label) → IsPlaceOf c.self.inside.edges c.args.y c.args.place
at_place c = subst (λ row. IsPlaceOf row c.args.y c.args.place) (sym c.self.view_is) c.requires.place

written : (c : goal.After-set_label) → c.set_label.new.self ≡ set c.self.inside.edges c.args.place (c.args.y, c.args.label)
written c = c.set_label.ensures ([], nothing) ∙ (λ i. set c.self.inside.edges c.args.place ((at_place c).target ([], nothing) i, c.args.label))

pub invariant_of-self : goal.invariant_of-self
invariant_of-self c = subst IsRow (sym (written c)) (row-set c.self.inside.edges c.args.y c.args.place c.self.invariant (at_place c) c.args.label c.requires.label)

pub returns-clause-row : goal.returns-clause-row
returns-clause-row c = subst IsRow (sym (written c)) (row-set c.self.inside.edges c.args.y c.args.place c.self.invariant (at_place c) c.args.label c.requires.label)

pub returns-clause-puts : goal.returns-clause-puts
returns-clause-puts c v =
    ap (lookup (bytes_eq v)) (written c)
    ∙ puts-set c.self.inside.edges c.args.y c.args.place c.self.invariant (at_place c) c.args.label v
    ∙ ap (λ row. cond (bytes_eq c.args.y v) (Some c.args.label) (lookup (bytes_eq v) row)) c.self.view_is
