use Rattle.std.proofs.Common.{◌≡◌}
use Rattle.std.proofs.lemmas.Bool.{MatchBool-at_true}
use Rattle.tg_flow.specs.Sending.{Sends}
use Rattle.tg_flow.proofs.Carried.{sends-more}
use Rattle.tg_flow.proofs.network.Network.send_more.Goals as goal

pub loop-more-preserved : goal.loop-more-preserved
loop-more-preserved c =
    let sent = MatchBool-at_true (Sends c.args.x c.loop-more.self c.send_another.new.self) (c.send_another.new.self ≡ c.loop-more.self) c.if-not-branch.false c.in_ok-send_another.ensures in
    sends-more c.args.x c.loop-more.more c.args.self.now c.loop-more.self c.send_another.new.self c.loop-more.invariant sent
