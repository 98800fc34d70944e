use Rattle.std.proofs.Common.{sym, ◌∙◌}
use Rattle.tg_flow.proofs.Limits.{endless, free}
use Rattle.tg_flow.proofs.network.Network.fill.Goals as goal

pub returns-then-is_endless-clause-full : goal.returns-then-is_endless-clause-full
returns-then-is_endless-clause-full c =
    endless c.list.new.self c.args.x c.in_ok-kept.kept c.in_ok-kept.ensures (sym c.has_met-is_endless.ensures ∙ c.if-is_endless.true)

pub send_all-requires-clause-free : goal.send_all-requires-clause-free
send_all-requires-clause-free c =
    free c.list.new.self c.args.x c.in_ok-kept.kept c.in_ok-kept.ensures (sym c.has_met-is_endless.ensures ∙ c.if-is_endless.false)
