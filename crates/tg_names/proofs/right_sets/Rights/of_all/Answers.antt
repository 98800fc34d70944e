use Rattle.std.proofs.Common.{◌∙◌, ◌+◌, sym, ap, refl, drop, get_or, Some}
use Rattle.tg_names.specs.Letters.{with_letters, with_new_right}
use Rattle.tg_names.proofs.Letters.{none-letters, letters-step}
use Rattle.tg_names.proofs.right_sets.Rights.of_all.Goals as goal

pub returns-in_err-rights-clause-value : goal.returns-in_err-rights-clause-value
returns-in_err-rights-clause-value c =
    let bs = c.args.letters.now in
    let i = c.loop-letter.letter-index in
    c.from_residual.ensures
    ∙ sym (c.loop-letter.invariant.0
    ∙ letters-step c.loop-letter.rights bs i (get_or bs i 0) c.loop-letter-test.true refl
    ∙ ap (λ o. with_letters o (drop (i + 1) bs)) (sym c.with_letter.ensures.value ∙ c.in_err-rights.was)
    ∙ none-letters (drop (i + 1) bs))
