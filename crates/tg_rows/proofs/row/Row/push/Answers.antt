use Rattle.std.proofs.Common.{sym, subst, length, MatchBool, ◌≡◌}
use Rattle.tg_rows.specs.Rows.{Edges, AreBelow, Adds}
use Rattle.tg_rows.proofs.Places.{row-pushed, adds-pushed}
use Rattle.tg_rows.proofs.row.Row.push.Goals as goal

pub invariant_of-self-2 : goal.invariant_of-self-2
invariant_of-self-2 c =
    let row = c.self.inside.edges in
    let below : AreBelow row c.args.y (length row) =
    subst (λ (r : Edges). AreBelow r c.args.y (length row)) (sym c.self.view_is) (subst (AreBelow c.args.self.now c.args.y) c.len-end.ensures (c.is_above.ensures c.if-not-is_above.false)) in
    row-pushed row c.push.new.self c.args.y c.args.label below c.in_ok-pushed.pushed c.in_ok-pushed.ensures.pushed c.requires c.self.invariant

pub returns-clause-row : goal.returns-clause-row
returns-clause-row c =
    let row = c.self.inside.edges in
    let below : AreBelow row c.args.y (length row) =
    subst (λ (r : Edges). AreBelow r c.args.y (length row)) (sym c.self.view_is) (subst (AreBelow c.args.self.now c.args.y) c.len-end.ensures (c.is_above.ensures c.if-not-is_above.false)) in
    row-pushed row c.push.new.self c.args.y c.args.label below c.in_ok-pushed.pushed c.in_ok-pushed.ensures.pushed c.requires c.self.invariant

pub returns-clause-pushed : goal.returns-clause-pushed
returns-clause-pushed c =
    let row = c.self.inside.edges in
    let below : AreBelow row c.args.y (length row) =
    subst (λ (r : Edges). AreBelow r c.args.y (length row)) (sym c.self.view_is) (subst (AreBelow c.args.self.now c.args.y) c.len-end.ensures (c.is_above.ensures c.if-not-is_above.false)) in
    subst (λ (r : Edges). MatchBool c.in_ok-pushed.pushed (Adds r c.push.new.self c.args.y c.args.label) (c.push.new.self ≡ r)) c.self.view_is
    (adds-pushed row c.push.new.self c.args.y c.args.label below c.in_ok-pushed.pushed c.in_ok-pushed.ensures.pushed)
