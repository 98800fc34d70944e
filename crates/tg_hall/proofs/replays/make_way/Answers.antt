use Rattle.std.proofs.Common.{sym, ap, subst, ◌∙◌}
use Rattle.tg_hall.specs.Knowing.{IsKnown, knows_any}
use Rattle.tg_hall.proofs.SeatLemmas.{known-on, forgotten-none}
use Rattle.tg_hall.proofs.replays.make_way.Goals as goal

pub returns-then-is_accepted-clause-known : goal.returns-then-is_accepted-clause-known
returns-then-is_accepted-clause-known c =
    subst (IsKnown c.args.base.now c.args.draft.now) (sym c.give_up.ensures) (known-on c.args.base.now c.args.base.now c.args.draft.now c.args.known.now c.requires.known)

pub returns-then-is_accepted-clause-way : goal.returns-then-is_accepted-clause-way
returns-then-is_accepted-clause-way c = λ accepted. ap knows_any c.give_up.ensures ∙ forgotten-none c.args.known.now
