use Rattle.std.proofs.Common.{ap, ◌∙◌}
use Rattle.tg_hall.specs.Worlds.{with_seat}
use Rattle.tg_hall.specs.Acts.{caught_up}
use Rattle.tg_hall.proofs.Learning.{learns_all, learns_none}
use Rattle.tg_hall.proofs.halls.Hall.learn_all.Goals as goal

pub returns-in-Ok : goal.returns-in-Ok
returns-in-Ok c =
    let w = c.args.self.now in
    let b = c.in-Some.ensures in
    learns_all w c.args.seat c.in-Some.index c.in-Some.other b c.take_over.new.self c.requires
    (c.in-Ok.ensures.took ∙ ap (λ k. with_seat w k (caught_up w) w.history) b.number)

pub returns-in-Err : goal.returns-in-Err
returns-in-Err c =
    learns_none c.args.self.now c.args.seat c.in-Some.index c.in-Some.other c.in-Some.ensures c.take_over.new.self c.requires c.in-Err.ensures.err
