use Rattle.std.proofs.Common.{◌+◌, ℕ, Vec, Global, sym, subst, ◌∙◌}
use Rattle.tg_policies.specs.PolicyParts.{AreMarked}
use Rattle.tg_policies.proofs.GroupLaws.{marked-more, marked-skip}
use Rattle.tg_policies.proofs.groups.marked_places.Goals as goal
use Rattle.tg_policies.proofs.groups.marked_places.Goals.{then-is_marked+in_ok-push, else-is_marked}

pub loop-place-preserved : goal.loop-place-preserved
loop-place-preserved c =
    let marks = c.args.marks.now in
    let place = c.loop-place.place in
    let so_far = c.loop-place.places.items in
    elim c.if-is_marked.branch [
      | then-is_marked+in_ok-push w ↦ subst (λ (v : Vec ℕ Global). AreMarked marks (place + 1) v.items) (sym w.places-is) (marked-more marks place so_far c.loop-place.invariant _ (sym c.is_marked.ensures ∙ w.if-is_marked.true) w.in_ok-push.ensures.items)
      | else-is_marked w ↦ subst (λ (v : Vec ℕ Global). AreMarked marks (place + 1) v.items) (sym w.places-is) (marked-skip marks place so_far c.loop-place.invariant (sym c.is_marked.ensures ∙ w.if-is_marked.false))
    ]
