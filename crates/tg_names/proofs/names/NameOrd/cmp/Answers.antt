use Rattle.std.proofs.Common.{arith}
use Rattle.std.specs.declared.cmp.Ordering.TheVariants.{Less, Equal, Greater}
use Rattle.tg_names.proofs.NameNumbers.{order_told}
use Rattle.tg_names.proofs.names.NameOrd.cmp.Goals as goal

pub returns-then-mine-theirs : goal.returns-then-mine-theirs
returns-then-mine-theirs c =
    order_told c.args.self.now c.args.other.now c.number-mine.ensures.valid c.number-theirs.ensures.valid Greater
    (omega (arith, c.number-mine.ensures.value, c.number-theirs.ensures.value, c.if-mine-theirs.true))

pub returns-then-mine-theirs-2 : goal.returns-then-mine-theirs-2
returns-then-mine-theirs-2 c =
    order_told c.args.self.now c.args.other.now c.number-mine.ensures.valid c.number-theirs.ensures.valid Less
    (omega (arith, c.number-mine.ensures.value, c.number-theirs.ensures.value, c.if-mine-theirs-2.true))

pub returns-else-mine-theirs-2 : goal.returns-else-mine-theirs-2
returns-else-mine-theirs-2 c =
    order_told c.args.self.now c.args.other.now c.number-mine.ensures.valid c.number-theirs.ensures.valid Equal
    (omega (arith, c.number-mine.ensures.value, c.number-theirs.ensures.value, c.if-mine-theirs.false, c.if-mine-theirs-2.false))
