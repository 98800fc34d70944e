use Rattle.std.proofs.Common.{sym, ◌∙◌}
use Rattle.tg_store.proofs.RunningSeats.{looked-first, looked-next, left-falls}
use Rattle.tg_store.proofs.running_seats.Seat.look_all.Goals as goal

pub loop-look-init : goal.loop-look-init
loop-look-init c = looked-first c.args.self.now c.look-look.result c.look-look.new.self c.look-look.ensures

pub loop-look-preserved : goal.loop-look-preserved
loop-look-preserved c =
    let again = c.look-look-in-loop-look in
    looked-next c.args.self.now c.loop-look.self again.new.self c.loop-look.look again.result c.loop-look.invariant again.ensures

pub loop-look-smaller : goal.loop-look-smaller
loop-look-smaller c =
    let again = c.look-look-in-loop-look in
    left-falls c.loop-look.self again.new.self c.loop-look.look again.result (sym c.is_found.ensures ∙ c.loop-look-test.true) again.ensures
