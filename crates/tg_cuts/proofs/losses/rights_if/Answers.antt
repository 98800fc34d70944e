use Rattle.std.proofs.Common.{◌&&◌, sym, ap, ◌∙◌}
use Rattle.tg_names.specs.Sets.{member}
use Rattle.tg_names.proofs.Sets.{member-nothing}
use Rattle.tg_cuts.proofs.losses.rights_if.Goals as goal

pub returns-then-goes-clause-members : goal.returns-then-goes-clause-members
returns-then-goes-clause-members c = λ lost. sym (ap (λ b. b && member c.args.rights lost) c.if-goes.true)

pub returns-else-goes-clause-members : goal.returns-else-goes-clause-members
returns-else-goes-clause-members c = λ lost. (λ i. member (record { 0 = c.empty.ensures tt i }) lost) ∙ member-nothing lost ∙ sym (ap (λ b. b && member c.args.rights lost) c.if-goes.false)
