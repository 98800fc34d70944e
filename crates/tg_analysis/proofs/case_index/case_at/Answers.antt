use Rattle.std.proofs.Common.{◌≡◌, Some, sym, ap, subst}
use Rattle.tg_analysis.specs.declared.cases.Spot.{Spot}
use Rattle.tg_analysis.specs.Cases.{StandsAt}
use Rattle.tg_analysis.proofs.case_index.case_at.Goals as goal

pub returns-in_err-name_at-clause-some : goal.returns-in_err-name_at-clause-some
returns-in_err-name_at-clause-some c = λ s x y e at_x at_y.
    let same : c.in_ok-spot.spot ≡ s = (let was = c.in_ok-spot.was in cc) in
    let some = c.name_at.ensures x (subst (λ (t : Spot). StandsAt c.args.names.now c.args.xs.now t.x x) (sym same) at_x) in
    let none = c.in_err-name_at.was in absurd cc

pub returns-in_err-name_at-2-clause-some : goal.returns-in_err-name_at-2-clause-some
returns-in_err-name_at-2-clause-some c = λ s x y e at_x at_y.
    let same : c.in_ok-spot.spot ≡ s = (let was = c.in_ok-spot.was in cc) in
    let some = c.name_at-2.ensures y (subst (λ (t : Spot). StandsAt c.args.names.now c.args.ys.now t.y y) (sym same) at_y) in
    let none = c.in_err-name_at-2.was in absurd cc

pub returns-clause-some : goal.returns-clause-some
returns-clause-some c = λ s x y e at_x at_y.
    let same : c.in_ok-spot.spot ≡ s = (let was = c.in_ok-spot.was in cc) in
    let some_x = c.name_at.ensures x (subst (λ (t : Spot). StandsAt c.args.names.now c.args.xs.now t.x x) (sym same) at_x) in
    let some_y = c.name_at-2.ensures y (subst (λ (t : Spot). StandsAt c.args.names.now c.args.ys.now t.y y) (sym same) at_y) in
    let first : c.in_ok-name_at.field-0 ≡ x = (let was = c.in_ok-name_at.was in cc) in
    let second : c.in_ok-name_at-2.field-0 ≡ y = (let was = c.in_ok-name_at-2.was in cc) in
    let right : c.in_ok-spot.spot.right ≡ s.right = ap (λ (t : Spot). t.right) same in
    λ n. Some (record { right = right n; x = first n; y = second n })
