use Rattle.std.proofs.Common.{◌≡◌, length, subst, sym, arith}
use Rattle.tg_islands.specs.JoinedSets.{NumbersUpTo, NumberSets}
use Rattle.tg_islands.proofs.SetNumbers.{numbers-counted, numbers-sets}
use Rattle.tg_islands.proofs.joining.numbered.Goals as goal

pub new-requires : goal.new-requires
new-requires c =
    let end : c.loop-position.position ≡ length c.args.sets.now = omega arith in
    numbers-counted c.args.sets.now c.loop-position.numbers (subst (λ n. NumbersUpTo c.args.sets.now n c.loop-position.numbers) end c.loop-position.invariant)

pub returns : goal.returns
returns c =
    let end : c.loop-position.position ≡ length c.args.sets.now = omega arith in
    subst (NumberSets c.args.sets.now) (sym c.new.ensures) (numbers-sets c.args.sets.now c.loop-position.numbers (subst (λ n. NumbersUpTo c.args.sets.now n c.loop-position.numbers) end c.loop-position.invariant))
