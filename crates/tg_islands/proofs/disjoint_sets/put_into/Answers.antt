use Rattle.std.proofs.Common.{get_or, arith}
use Rattle.tg_islands.proofs.OneOf.{item-one_of}
use Rattle.tg_islands.proofs.disjoint_sets.put_into.Goals as goal

pub index_mut-requires : goal.index_mut-requires
index_mut-requires c =
    let items = c.args.positions.now in
    let index = c.loop-position.position-index in
    let within = c.requires (get_or items index 0) (item-one_of items index (omega (arith, c.loop-position-test.true))) in
    omega (arith, within, c.loop-position.invariant.len)
