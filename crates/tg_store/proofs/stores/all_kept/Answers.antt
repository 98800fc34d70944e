use Rattle.std.proofs.Common.{◌≡◌, get_or, length, refl, sym, subst, arith, inl, inr}
use Rattle.std.proofs.lemmas.Bool.{cases_lt}
use Rattle.std.proofs.lemmas.Option.{slice_get_read, get_or_from_slice_get}
use Rattle.tg_store.specs.Running.{IsSeat}
use Rattle.tg_store.proofs.stores.all_kept.Goals as goal

pub loop-seat-preserved : goal.loop-seat-preserved
loop-seat-preserved c i d lt =
    let seats = c.args.seats.now in
    let at = c.loop-seat.seat-index in
    elim (cases_lt i at) [
      | inl before ↦ c.loop-seat.invariant i d before
      | inr after ↦
          let same : at ≡ i = omega (arith, lt, after) in
          let here = get_or_from_slice_get seats at c.seat-item.result d (slice_get_read seats (length seats) at c.seat-item.result refl c.loop-seat-test.true c.seat-item.is) in
          subst (λ n. IsSeat (get_or seats n d)) same (subst IsSeat (sym here) c.taken.ensures.seat)
    ]
