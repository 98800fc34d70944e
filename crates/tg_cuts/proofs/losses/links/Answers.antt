use Rattle.tg_cuts.proofs.LossRules.{links-are}
use Rattle.tg_cuts.proofs.losses.links.Goals as goal

pub returns-clause-members : goal.returns-clause-members
returns-clause-members c = λ lost. links-are c.of.result c.of-2.result c.union.result (λ i. record { 0 = c.of.ensures.bit i }) (λ i. record { 0 = c.of-2.ensures.bit i }) c.union.ensures.members lost
