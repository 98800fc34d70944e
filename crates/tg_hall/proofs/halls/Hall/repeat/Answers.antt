use Rattle.std.proofs.Common.{◌≡◌, arith, sym, ap, ◌∙◌}
use Rattle.std.specs.Prelude.{if◌then◌else◌}
use Rattle.tg_hall.proofs.RunLemmas.{flag, repeated-start, repeated-more, repeated-end, left-falls}
use Rattle.tg_hall.proofs.halls.Hall.repeat.Goals as goal

pub loop-answer-init : goal.loop-answer-init
loop-answer-init c = repeated-start c.args.self.now c.happen-answer.new.self c.args.event.now c.happen-answer.result c.happen-answer.ensures.happens

pub loop-answer-preserved : goal.loop-answer-preserved
loop-answer-preserved c =
    let again = c.happen-answer-in-loop-answer in
    repeated-more c.args.self.now c.loop-answer.self again.new.self c.args.event.now c.loop-answer.answer again.result c.loop-answer.invariant (sym c.is_learned.ensures ∙ c.loop-answer-test.true) again.ensures.happens

pub loop-answer-smaller : goal.loop-answer-smaller
loop-answer-smaller c =
    let again = c.happen-answer-in-loop-answer in
    let falls = left-falls c.loop-answer.self again.new.self c.args.event.now again.result c.requires again.ensures.happens in
    let one : flag c.loop-answer.answer ≡ 1 = ap (λ b. if b then 1 else 0) (sym c.is_learned.ensures ∙ c.loop-answer-test.true) in
    omega (arith, falls, one)

pub returns : goal.returns
returns c = repeated-end c.args.self.now c.loop-answer.self c.args.event.now c.loop-answer.answer c.loop-answer.invariant (sym c.is_learned.ensures ∙ c.loop-answer-test.false)
