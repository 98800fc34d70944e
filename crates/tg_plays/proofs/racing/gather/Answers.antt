use Rattle.std.proofs.Common.{◌++◌, ap, ◌∙◌}
use Rattle.tg_plays.proofs.RaceReports.{gathered-more}
use Rattle.tg_plays.proofs.racing.gather.Goals as goal

pub loop-finished-preserved : goal.loop-finished-preserved
loop-finished-preserved c =
    let now = c.loop-finished in
    let text = c.in_ok-extend_from_slice.ensures.items ∙ ap (λ t. now.text.items ++ t) c.deref.ensures.value in
    gathered-more now.yielded now.text.items c.extend_from_slice.new.self.items now.seats.items c.push.new.self.items c.in-Some.finished c.in_ok-finished.finished c.in_ok-finished.was now.invariant text c.in_ok-push.ensures.items
