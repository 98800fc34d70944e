use Rattle.std.proofs.Common.{arith}
use Rattle.tg_words.proofs.LineFeeds.{first_in_block, none_in_block}
use Rattle.tg_words.proofs.lines.line_end.Goals as goal

pub returns-then-found-ne0 : goal.returns-then-found-ne0
returns-then-found-ne0 c = first_in_block c.args.text.now c.loop-clear.clear c.line_feeds-found.result (omega arith) c.loop-clear.invariant.1 c.line_feeds-found.ensures (omega arith)

pub loop-clear-preserved : goal.loop-clear-preserved
loop-clear-preserved c = (omega arith, none_in_block c.args.text.now c.loop-clear.clear c.line_feeds-found.result (omega arith) c.loop-clear.invariant.1 c.line_feeds-found.ensures c.if-found-ne0.false)
