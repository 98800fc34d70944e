use Rattle.std.proofs.Common.{◌≤◌, ℕ, List, length, take, sym, ap, subst, ◌∙◌}
use Rattle.tg_names.specs.Names.{IsName, first_bad, padded_to_16}
use Rattle.tg_names.proofs.NameFronts.{same_cut, longest_in_front}
use Rattle.tg_names.proofs.names.front.Goals as goal

pub returns-in-Some-clause-padded : goal.returns-in-Some-clause-padded
returns-in-Some-clause-padded c =
    let len = c.front_of_16.result.1 in
    c.front_of_16.ensures.padded ∙ ap (λ bs. padded_to_16 (take len bs)) c.in-Some.ensures.cases.same ∙ ap padded_to_16 (same_cut len c.args.bytes.now c.front_of_16.ensures.few)

pub returns-in-Some-clause-fit : goal.returns-in-Some-clause-fit
returns-in-Some-clause-fit c =
    let len = c.front_of_16.result.1 in
    ap (first_bad 0) (sym (same_cut len c.args.bytes.now c.front_of_16.ensures.few)) ∙ ap (λ bs. first_bad 0 (take len bs)) (sym c.in-Some.ensures.cases.same) ∙ c.front_of_16.ensures.fit

pub returns-in-Some-clause-longest : goal.returns-in-Some-clause-longest
returns-in-Some-clause-longest c =
    let len = c.front_of_16.result.1 in
    longest_in_front c.args.bytes.now len
    (subst (λ (bs : List ℕ). (k : ℕ) → IsName (take k bs) → length (take k bs) ≤ len) c.in-Some.ensures.cases.same c.front_of_16.ensures.longest)
