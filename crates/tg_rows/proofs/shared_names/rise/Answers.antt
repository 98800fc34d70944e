use Rattle.std.proofs.Common.{arith}
use Rattle.tg_rows.proofs.RisingNames.{rising}
use Rattle.tg_rows.proofs.shared_names.rise.Goals as goal

pub returns : goal.returns
returns c = λ _. rising c.args.names.now (λ k low. c.loop-place.invariant k (omega (arith, low, c.loop-place-test.false)))
