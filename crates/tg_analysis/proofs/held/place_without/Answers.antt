use Rattle.std.proofs.Common.{◌≤◌, length, get_or, sym, ◌∙◌, arith, true≢false}
use Rattle.std.proofs.lemmas.Option.{slice_get-get_or}
use Rattle.tg_analysis.proofs.Claims.{none-without-more, none-without-all}
use Rattle.tg_analysis.proofs.held.place_without.Goals as goal

pub loop-index-preserved : goal.loop-index-preserved
loop-index-preserved c =
    let places = c.args.places.now in
    let numbers = c.args.numbers.now in
    let index = c.loop-index.index in
    let place = get_or places index 0 in
    let at = slice_get-get_or places index 0 c.loop-index-test.true in
    let of = slice_get-get_or numbers place 0 (c.requires.within index place at) in
    let has = (c.label_of.ensures c.args.right).0 (sym c.has.ensures ∙ c.if-not-has.false) in
    none-without-more c.args.entries.now numbers places c.args.right index place (get_or numbers place 0) at of has c.loop-index.invariant

pub returns : goal.returns
returns c =
    let all : length c.args.places.now ≤ c.loop-index.index = omega arith in
    none-without-all c.args.entries.now c.args.numbers.now c.args.places.now c.args.right c.loop-index.index all c.loop-index.invariant

pub returns-then-not-has : goal.returns-then-not-has
returns-then-not-has c =
    let places = c.args.places.now in
    let numbers = c.args.numbers.now in
    let index = c.loop-index.index in
    let place = get_or places index 0 in
    let at = slice_get-get_or places index 0 c.loop-index-test.true in
    let of = slice_get-get_or numbers place 0 (c.requires.within index place at) in
    let lacks = sym c.has.ensures ∙ c.if-not-has.true in
    (index, at, (get_or numbers place 0, of, λ s. true≢false (sym ((c.label_of.ensures c.args.right).1 s) ∙ lacks)), c.loop-index.invariant)
