use Rattle.std.proofs.Common.{sym, ◌∙◌}
use Rattle.tg_hall.specs.Drafted.{drafted}
use Rattle.tg_hall.proofs.Commuting.{rows-done}
use Rattle.tg_hall.proofs.replays.carry_out.Goals as goal

pub returns-in-Ok-clause-rows : goal.returns-in-Ok-clause-rows
returns-in-Ok-clause-rows c =
    rows-done (drafted c.args.base.now c.args.draft.now) c.args.rule.now c.args.draft.now c.apply.new.self c.in-Ok.ensures.applied.0 (sym c.lacks_room.ensures ∙ c.if-lacks_room.false) c.in-Ok.ensures.rows
