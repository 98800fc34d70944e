use Rattle.std.proofs.Common.{◌&&◌, ◌∙◌}
use Rattle.tg_names.specs.Sets.{member}
use Rattle.tg_cuts.proofs.LossRules.{loss-is}
use Rattle.tg_cuts.proofs.losses.loss.Goals as goal

pub returns : goal.returns
returns c =
    loss-is c.args.right c.args.from_free c.args.to_free c.args.to_y c.args.label c.rights_if-right_lost.result c.rights_if-links_lost.result c.union-lost.result c.difference-left.result c.difference.result
    (λ r. c.rights_if-right_lost.ensures.members r ∙ (λ i. c.both.ensures i && member (record { 0 = c.of.ensures.bit i }) r))
    (λ r. c.rights_if-links_lost.ensures.members r ∙ (λ i. c.differ.ensures i && c.links.ensures.members r i))
    c.union-lost.ensures.members
    c.difference-left.ensures.set
    c.difference.ensures.set
    c.difference.ensures.named
