use Rattle.tg_flow.specs.Sending.{SendsMany}
use Rattle.tg_flow.proofs.network.Network.send_more.Given as goal

abbrev pub invariant-loop-more : goal.invariant-loop-more
invariant-loop-more l = SendsMany l.x l.more l.fn.self l.self
