use Rattle.std.proofs.Common.{◌++◌, ◌∷◌, [], All, subst, sym, ap, ◌∙◌}
use Rattle.std.proofs.lemmas.List.{append_assoc}
use Rattle.std.proofs.lemmas.List.Elements.{All-nil, All-cons, All-append}
use Rattle.tg_store.specs.Running.{IsOf}
use Rattle.workloads.proofs.racing.play_round.Goals as goal

pub loop-seat-preserved : goal.loop-seat-preserved
loop-seat-preserved c =
    let now = c.loop-seat in
    let played = c.in_ok-seat.seat in
    record {
      played = subst (All (IsOf c.args.store.now)) (sym c.in_ok-push.ensures.items) (All-append (IsOf c.args.store.now) now.played.items (played ∷ []) now.invariant.played (All-cons (IsOf c.args.store.now) played [] c.in_ok-seat.ensures (All-nil (IsOf c.args.store.now))));
      left = append_assoc now.yielded (c.in-Some.seat ∷ []) c.next.new.self.rest.items ∙ ap (λ r. now.yielded ++ r) (sym c.in-Some.ensures.steps.0) ∙ now.invariant.left;
    }
