use Rattle.std.proofs.Common.{get_or}
use Rattle.std.proofs.lemmas.Option.{slice_get-get_or}
use Rattle.tg_analysis.proofs.FirstCases.{numbers-at-more}
use Rattle.tg_analysis.proofs.case_index.numbers_at.Goals as goal

pub loop-index-preserved : goal.loop-index-preserved
loop-index-preserved c =
    let numbers = c.args.numbers.now in
    let places = c.args.places.now in
    let index = c.loop-index.index in
    let place = get_or places index 0 in
    let at = slice_get-get_or places index 0 c.loop-index-test.true in
    let there = slice_get-get_or numbers place 0 (c.requires index place at) in
    numbers-at-more numbers places index place (get_or numbers place 0) c.loop-index.listed.items c.push.new.self.items c.loop-index.invariant at there c.in_ok-push.ensures.items
