use Rattle.std.proofs.Common.{◌≡◌, ◌+◌, ◌++◌, ◌∷◌, [], take, sym, ap, ◌∙◌}
use Rattle.std.specs.List.{list_any}
use Rattle.std.proofs.lemmas.List.{take_more}
use Rattle.tg_names.specs.Names.{same_name}
use Rattle.tg_graph.specs.GraphOf.{graph_of}
use Rattle.tg_hall.specs.Answers.{after_step}
use Rattle.tg_hall.specs.Touches.{writes}
use Rattle.tg_hall.proofs.Ordered.{after_steps-more}
use Rattle.tg_hall.proofs.Commuting.{rows-more}
use Rattle.tg_hall.proofs.replays.with_steps.Goals as goal

pub loop-answered-preserved : goal.loop-answered-preserved
loop-answered-preserved c =
    let a = c.answered-item.result in
    let base = c.args.base.now in
    let steps = c.args.steps.now in
    let i = c.loop-answered.answered-index in
    let inv = c.loop-answered.invariant in
    let more : take (i + 1) steps ≡ take i steps ++ a ∷ [] = take_more steps i a c.loop-answered-test.true ∙ ap (λ b. take i steps ++ b ∷ []) (sym c.answered-item.is) in
    record {
      fits = c.lay.ensures.fits;
      stands = c.in_ok-lay.ensures.after ∙ ap (λ g. after_step g a.step) inv.stands ∙ sym (after_steps-more (graph_of base) steps i a c.loop-answered-test.true c.answered-item.is);
      rows = λ v.
          rows-more base (take i steps) a c.loop-answered.draft c.lay.new.draft inv.stands inv.rows c.in_ok-lay.ensures.rows v
          ∙ ap (λ steps. list_any (same_name v) (writes (graph_of base) steps)) (sym more);
    }
