use Rattle.std.proofs.Common.{◌||◌, ◌∷◌, [], length, arith, sym, ap, subst, ◌∙◌}
use Rattle.std.proofs.lemmas.List.{length-append}
use Rattle.tg_analysis.specs.Holdings.{holds_over, AddsTargets}
use Rattle.tg_analysis.proofs.JoinedHoldings.{holds-moved}
use Rattle.tg_analysis.proofs.holdings.Holdings.join.Goals as goal

pub loop-targets-preserved : goal.loop-targets-preserved
loop-targets-preserved c =
    let rest = c.pop.new.self.items in
    let adds : AddsTargets c.loop-targets.self c.add_all.new.self (length rest) c.in-Some.targets = subst (λ n. AddsTargets c.loop-targets.self c.add_all.new.self n c.in-Some.targets) (c.len.ensures ∙ c.pop.new.self.ok.0) c.in_ok-add_all.ensures in
    record {
      len = adds.len ∙ c.loop-targets.invariant.len;
      room = omega (arith, adds.len, c.loop-targets.invariant.room, c.in-Some.ensures.items, ap length c.in-Some.ensures.items, length-append rest (c.in-Some.targets ∷ []));
      held = λ k b. holds-moved rest c.in-Some.targets c.loop-targets.self c.add_all.new.self adds k b ∙ ap (λ xs. holds_over c.loop-targets.self k b || holds_over xs k b) (sym c.in-Some.ensures.items) ∙ c.loop-targets.invariant.held k b;
    }
