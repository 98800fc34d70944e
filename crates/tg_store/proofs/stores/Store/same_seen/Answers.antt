use Rattle.std.proofs.Common.{◌≡◌, length, refl, arith}
use Rattle.tg_store.proofs.Agreeing.{lists-same}
use Rattle.tg_store.proofs.stores.Store.same_seen.Goals as goal

pub returns : goal.returns
returns c =
    let one = c.args.one.now.pass.seen in
    let other = c.args.other.now.pass.seen in
    let n : length other ≡ length one = let a = c.seen-count.ensures in let b = c.seen.ensures in let d = c.if-seen-count.false in omega (arith, a, b, d) in
    (λ t. lists-same other one n (λ i lt. c.loop-place.invariant i (let a = c.seen-count.ensures in let b = c.loop-place-test.false in omega (arith, lt, n, a, b))), λ e. refl)
