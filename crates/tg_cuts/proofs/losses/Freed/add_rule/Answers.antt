use Rattle.std.proofs.Common.{inl, inr, refl}
use Rattle.tg_cuts.proofs.losses.Freed.add_rule.Goals as goal

pub returns-in_ok-push : goal.returns-in_ok-push
returns-in_ok-push c = inr (c.in-Some.rule, c.in-Some.ensures, c.in_ok-push.ensures.items)

pub returns-in_default : goal.returns-in_default
returns-in_default c = inl (c.in_default.ensures, refl)
