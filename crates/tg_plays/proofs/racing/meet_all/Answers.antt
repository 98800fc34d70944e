use Rattle.std.proofs.Common.{◌∙◌, refl, subst, arith}
use Rattle.std.proofs.lemmas.List.{take_all}
use Rattle.tg_store.proofs.RunningSeats.{goes_on-refl, goes_on-trans}
use Rattle.tg_plays.specs.RaceParts.{MeetsAll}
use Rattle.tg_plays.proofs.RaceHistory.{meets-none, met-more}
use Rattle.tg_plays.proofs.racing.meet_all.Goals as goal

pub loop-other-init : goal.loop-other-init
loop-other-init c = record {
  goes_on = goes_on-refl c.args.seat.now;
  nothing_put = refl;
  seat = c.taken.ensures.seat;
  met = meets-none c.args.seat.now;
}

pub loop-other-preserved : goal.loop-other-preserved
loop-other-preserved c =
    let now = c.loop-other in
    let next = c.meet_one.new.seat in
    let told = c.in_ok-meet_one.ensures in
    record {
      goes_on = goes_on-trans c.args.seat.now now.seat next now.invariant.goes_on told.goes_on.0;
      nothing_put = told.goes_on.1 ∙ now.invariant.nothing_put;
      seat = told.seat;
      met = met-more c.args.seat.now c.args.others.now now.other-index c.other-item.result now.seat next c.loop-other-test.true c.other-item.is told.goes_on.0 now.invariant.met told.met;
    }

pub returns-clause-met : goal.returns-clause-met
returns-clause-met c =
    let now = c.loop-other in
    subst (λ met. MeetsAll c.args.seat.now met now.seat) (take_all now.other-index c.args.others.now (omega (arith, c.loop-other-test.false))) now.invariant.met
