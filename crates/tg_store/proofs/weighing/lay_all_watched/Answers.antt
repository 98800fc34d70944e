use Rattle.std.proofs.Common.{◌≡◌, ◌+◌, ◌++◌, ◌∷◌, [], None, is_some, take, drop, sym, ap, subst, ◌∙◌}
use Rattle.std.specs.Prelude.{find}
use Rattle.std.specs.List.{list_any}
use Rattle.std.proofs.lemmas.List.{take_more}
use Rattle.tg_names.specs.Names.{same_name}
use Rattle.tg_graph.specs.GraphOf.{graph_of}
use Rattle.tg_hall.specs.Answers.{after_step}
use Rattle.tg_hall.specs.Drafted.{drafted}
use Rattle.tg_hall.specs.Touches.{touches, step_writes, writes, spoiler}
use Rattle.tg_hall.proofs.Ordered.{after_steps-more}
use Rattle.tg_hall.proofs.Commuting.{rows-more}
use Rattle.tg_store.proofs.Weighed.{none_of, spoilt-here, spoilt-later, Watched, watched-none}
use Rattle.tg_store.proofs.weighing.lay_all_watched.Goals as goal

pub loop-answered-init : goal.loop-answered-init
loop-answered-init c =
    let w = subst (Watched c.args.base.now c.args.committed.now c.args.session.now) (sym c.requires.empty) (watched-none c.args.base.now c.args.committed.now c.args.session.now) in
    record { fits = w.fits; stands = w.stands; rows = w.rows; left = w.left }

pub loop-answered-preserved : goal.loop-answered-preserved
loop-answered-preserved c =
    let base = c.args.base.now in
    let g = drafted base c.loop-answered.draft in
    let steps = c.args.committed.now in
    let session = c.args.session.now in
    let i = c.loop-answered.answered-index in
    let a = c.answered-item.result in
    let lt = c.loop-answered-test.true in
    let inv = c.loop-answered.invariant in
    let more : take (i + 1) steps ≡ take i steps ++ a ∷ [] = take_more steps i a lt ∙ ap (λ b. take i steps ++ b ∷ []) (sym c.answered-item.is) in
    let clear : find (touches session) (step_writes g a.step) ≡ None = sym c.in_ok-name.ensures.name ∙ none_of _ (sym c.is_some.ensures ∙ c.if-is_some.false) in
    record {
      fits = c.lay_watched.ensures.fits;
      stands = c.in_ok-name.ensures.laid ∙ ap (λ g. after_step g a.step) inv.stands ∙ sym (after_steps-more (graph_of base) steps i a lt c.answered-item.is);
      rows = λ v.
          rows-more base (take i steps) a c.loop-answered.draft c.lay_watched.new.draft inv.stands inv.rows c.in_ok-name.ensures.rows v
          ∙ ap (λ steps. list_any (same_name v) (writes (graph_of base) steps)) (sym more);
      left = ap (λ g. spoiler g (drop (i + 1) steps) session) c.in_ok-name.ensures.laid ∙ sym (spoilt-later g steps session i a lt c.answered-item.is clear) ∙ inv.left;
    }

pub returns-then-is_some-clause-name : goal.returns-then-is_some-clause-name
returns-then-is_some-clause-name c =
    let g = drafted c.args.base.now c.loop-answered.draft in
    let i = c.loop-answered.answered-index in
    let a = c.answered-item.result in
    let name = c.in_ok-name.ensures.name in
    let some = ap is_some (sym name) ∙ sym c.is_some.ensures ∙ c.if-is_some.true in
    name ∙ sym (spoilt-here g c.args.committed.now c.args.session.now i a c.loop-answered-test.true c.answered-item.is some) ∙ c.loop-answered.invariant.left
