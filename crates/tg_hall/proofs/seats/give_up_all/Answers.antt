use Rattle.std.proofs.Common.{sym, ap, ◌∙◌, set}
use Rattle.std.proofs.lemmas.List.Edits.{map_over_more}
use Rattle.tg_hall.specs.Seats.{given_up}
use Rattle.tg_hall.proofs.seats.give_up_all.Goals as goal

pub loop-at-preserved : goal.loop-at-preserved
loop-at-preserved c =
    let old = c.args.seats.now in
    let now = c.loop-at.seats in
    ap (set now c.loop-at.at) (c.give_up-took_memory.ensures.value ∙ ap given_up (sym c.index-seats-at.is))
    ∙ map_over_more given_up old now c.loop-at.at c.index-seats-at.result c.loop-at-test.true c.loop-at.invariant c.index-seats-at.is
