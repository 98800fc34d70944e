use Rattle.std.proofs.Common.{◌≡◌, ap, ◌∙◌, map, rules}
use Rattle.std.specs.Map.Iter.{deref_pair}
use Rattle.std.proofs.lemmas.Map.Iter.{iter_end}
use Rattle.tg_analysis.proofs.HeldEntries.{entry_of, said-same}
use Rattle.tg_analysis.proofs.RisingEntries.{rising-entries}
use Rattle.tg_analysis.proofs.held.HeldOver.of.Goals as goal

pub returns-clause-said : goal.returns-clause-said
returns-clause-said c =
    let sums = c.in_ok-sums.sums in
    let all : map deref_pair c.loop-number.yielded ≡ sums.entries = search (rules, iter_end) in
    said-same sums c.len.ensures.ordered c.loop-number.held.items (c.loop-number.invariant ∙ ap (map entry_of) all) c.args.entries.now c.in_ok-sums.ensures

pub returns-clause-rising : goal.returns-clause-rising
returns-clause-rising c =
    let sums = c.in_ok-sums.sums in
    let all : map deref_pair c.loop-number.yielded ≡ sums.entries = search (rules, iter_end) in
    rising-entries sums c.len.ensures.ordered c.loop-number.held.items (c.loop-number.invariant ∙ ap (map entry_of) all)
