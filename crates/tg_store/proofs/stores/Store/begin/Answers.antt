use Rattle.tg_store.proofs.RunningSeats.{goes_on-trans}
use Rattle.std.proofs.Common.{◌∙◌}
use Rattle.tg_store.specs.declared.outcomes.Begun.TheVariants.{Session}
use Rattle.tg_store.proofs.Agreeing.{begin-after}
use Rattle.tg_store.proofs.stores.Store.begin.Goals as goal

pub returns : goal.returns
returns c =
    let one = c.look_all.ensures.goes_on in
    let two = c.take_in_all.ensures.goes_on in
    begin-after c.args.seat c.take_in_all.new.self (Session c.open.result) (goes_on-trans c.args.seat c.look_all.new.self c.take_in_all.new.self one.0 two.0) (two.1 ∙ one.1) c.open.ensures
