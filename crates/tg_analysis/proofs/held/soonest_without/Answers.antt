use Rattle.std.proofs.Common.{◌≡◌, List, ℕ, get_or, sym, subst, ◌∙◌, arith}
use Rattle.tg_names.specs.declared.right_sets.Right.TheVariants.{T}
use Rattle.tg_names.specs.Letters.{all_rights}
use Rattle.tg_analysis.specs.Cases.{IsClaimWithout}
use Rattle.tg_analysis.proofs.CaseOrder.{right-at}
use Rattle.tg_analysis.proofs.Claims.{NoneLacks, lack-some, lack-none, none-at-all}
use Rattle.tg_analysis.proofs.held.soonest_without.Goals as goal

pub returns-then-is_some : goal.returns-then-is_some
returns-then-is_some c =
    let entries = c.args.entries.now in
    let numbers = c.args.numbers.now in
    let heads = c.args.heads.now in
    let index = c.loop-right.right-index in
    let right = get_or all_rights index T in
    let claim = subst (λ (order : List ℕ). IsClaimWithout entries numbers order c.args.rights right c.claim_without-claim.result) c.as_slice.ensures.value c.claim_without-claim.ensures in
    lack-some entries numbers c.args.rights heads.places.items heads.order.items c.requires.heads index right c.claim_without-claim.result c.loop-right.invariant (right-at index T c.loop-right-test.true) claim (sym c.is_some.ensures ∙ c.if-is_some.true)

pub loop-right-preserved : goal.loop-right-preserved
loop-right-preserved c =
    let entries = c.args.entries.now in
    let numbers = c.args.numbers.now in
    let heads = c.args.heads.now in
    let index = c.loop-right.right-index in
    let right = get_or all_rights index T in
    let claim = subst (λ (order : List ℕ). IsClaimWithout entries numbers order c.args.rights right c.claim_without-claim.result) c.as_slice.ensures.value c.claim_without-claim.ensures in
    lack-none entries numbers c.args.rights heads.places.items heads.order.items c.requires.heads index right c.claim_without-claim.result c.loop-right.invariant (right-at index T c.loop-right-test.true) claim (sym c.is_some.ensures ∙ c.if-is_some.false)

pub returns : goal.returns
returns c =
    let entries = c.args.entries.now in
    let numbers = c.args.numbers.now in
    let heads = c.args.heads.now in
    let end : c.loop-right.right-index ≡ 7 = omega arith in
    none-at-all entries numbers c.args.rights heads.places.items heads.order.items c.requires.heads (subst (λ n. NoneLacks entries numbers c.args.rights n) end c.loop-right.invariant)
