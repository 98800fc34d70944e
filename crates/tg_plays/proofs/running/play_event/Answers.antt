use Rattle.std.proofs.Common.{length, refl, sym, ap, subst, ◌++◌, ◌∙◌}
use Rattle.tg_hall.specs.Acts.{Acts}
use Rattle.tg_hall.specs.Worlds.{World}
use Rattle.tg_plays.specs.Runs.{outcome_line}
use Rattle.tg_plays.proofs.ActLemmas.{acts_keep, acts_told}
use Rattle.tg_plays.proofs.running.play_event.Goals as goal

pub append_line-requires : goal.append_line-requires
append_line-requires c =
    let event = c.args.event.now in
    acts_told c.args.hall.now c.act-answer.new.self event.seat event.act c.act-answer.result c.requires.seat c.requires.there c.act-answer.ensures.acts

pub returns : goal.returns
returns c =
    let event = c.args.event.now in
    let done = c.act-answer in
    let line = outcome_line event done.result in
    let same = c.make_room_in_run.ensures.hall in
    record {
      line = line;
      outcome = record { answer = done.result; act = subst (λ (w : World). Acts c.args.hall.now event.seat event.act done.result w) (sym same) done.ensures.acts; told = c.in_ok-append_line.ensures.told; written = refl };
      added = c.in_ok-append_line.ensures.appended ∙ ap (λ items. items ++ line) c.make_room_in_run.ensures.text;
      seats = ap (λ (w : World). length w.seats) same ∙ (acts_keep c.args.hall.now done.new.self event.seat event.act done.result done.ensures.acts).seats;
    }
