use Rattle.std.proofs.Common.{subst}
use Rattle.tg_hall.specs.Histories.{AreApart}
use Rattle.tg_hall.specs.Worlds.{World, TakeWithin, HoldTrue}
use Rattle.tg_hall.proofs.HallLemmas.{seats_within, seats_true}
use Rattle.tg_hall.proofs.Numbers.{apart}
use Rattle.tg_hall.proofs.halls.Hall.len.Goals as goal

pub returns-clause-apart : goal.returns-clause-apart
returns-clause-apart c = subst (λ (w : World). AreApart w.history) c.self.view_is (apart c.self.inside.records.items c.self.invariant.numbered)

pub returns-clause-taken : goal.returns-clause-taken
returns-clause-taken c = subst TakeWithin c.self.view_is (seats_within c.self.inside c.self.invariant.rests)

pub returns-clause-sessions : goal.returns-clause-sessions
returns-clause-sessions c = subst HoldTrue c.self.view_is (seats_true c.self.inside c.self.invariant.rests c.self.invariant.consistent)
