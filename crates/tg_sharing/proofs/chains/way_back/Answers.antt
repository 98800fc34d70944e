use Rattle.std.proofs.Common.{List, sym, ◌∙◌, subst}
use Rattle.tg_names.specs.Names.{Name}
use Rattle.tg_sharing.specs.Searches.{GoesBack}
use Rattle.tg_sharing.proofs.Ways.{goes-back-push}
use Rattle.tg_sharing.proofs.chains.way_back.Goals as goal

pub loop-step-preserved : goal.loop-step-preserved
loop-step-preserved c =
    subst (λ (way : List Name). GoesBack c.args.met.now c.args.place way c.in-Some.step.1) (sym c.in_ok-push.ensures.items)
    (goes-back-push c.args.met.now c.args.place c.loop-step.way.items c.loop-step.at c.in-Some.step.0 c.in-Some.step.1 c.loop-step.invariant (sym c.back.ensures ∙ c.in-Some.is))
