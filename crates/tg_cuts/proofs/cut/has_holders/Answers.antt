use Rattle.std.proofs.Common.{◌&&◌, not, sym, ap, ◌∙◌}
use Rattle.tg_flow.specs.Courses.{is_in}
use Rattle.tg_cuts.proofs.cut.has_holders.Goals as goal

pub returns-then-is_link : goal.returns-then-is_link
returns-then-is_link c = ap not c.is_in.ensures ∙ sym (ap (λ b. not (b && is_in c.args.near.now c.args.y_position)) (sym c.is_link.ensures ∙ c.if-is_link.true))

pub returns-else-is_link : goal.returns-else-is_link
returns-else-is_link c = sym (ap (λ b. not (b && is_in c.args.near.now c.args.y_position)) (sym c.is_link.ensures ∙ c.if-is_link.false))
