use Rattle.std.proofs.Common.{sym, subst}
use Rattle.tg_graph.specs.Drafts.{Fits, IsDraft}
use Rattle.tg_graph.proofs.Drafts.{fits-none, draft-none}
use Rattle.tg_graph.proofs.draft.Draft.new.Goals as goal

pub invariant_of-result : goal.invariant_of-result
invariant_of-result c = subst IsDraft (λ i. (sym c.new-rows.ensures.empty i, sym c.new-created.ensures.items i)) draft-none

pub returns-clause-fits : goal.returns-clause-fits
returns-clause-fits c base = subst (Fits base) (λ i. (sym c.new-rows.ensures.empty i, sym c.new-created.ensures.items i)) (fits-none base)
