use Rattle.std.proofs.Common.{◌≡◌, ◌+◌, ◌<◌, ◌≤◌, length, subst, arith}
use Rattle.std.specs.Int.{trailing_zeros, w64}
use Rattle.tg_words.specs.Lines.{NoLineFeedBefore, IsLineEnd}
use Rattle.tg_words.proofs.LineFeeds.{first_in_block, short, some_set}
use Rattle.tg_words.proofs.plain_lines.line_end_in_block.Goals as goal

pub returns : goal.returns
returns c = λ below.
    let bytes = c.args.bytes.now in
    let mask = c.line_feeds.result in
    let room : 0 + 16 ≤ length bytes = omega (arith, c.requires) in
    let clear : NoLineFeedBefore bytes 0 = λ k front. absurd (omega arith) in
    let some : 0 < mask = some_set mask below in
    let place : 0 + trailing_zeros w64 mask ≡ trailing_zeros w64 mask = omega arith in
    (subst (IsLineEnd bytes) place (first_in_block bytes 0 mask room clear c.line_feeds.ensures some), omega (arith, short bytes 0 mask room clear c.line_feeds.ensures some))
