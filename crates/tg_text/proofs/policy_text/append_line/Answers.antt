use Rattle.std.proofs.Common.{◌≡◌, ◌++◌, ◌∷◌, List, [], ℕ, take, length, ap, ◌∙◌, arith}
use Rattle.std.proofs.lemmas.List.{take_all}
use Rattle.tg_words.specs.Spelling.{spaced}
use Rattle.tg_text.specs.PolicyTrips.{claim_words}
use Rattle.tg_text.specs.declared.policy_text.Operand.{Operand}
use Rattle.tg_text.proofs.PolicyWords.{operand_texts, whole-line}
use Rattle.tg_text.proofs.policy_text.append_line.Goals as goal

pub returns : goal.returns
returns c =
    let before = c.args.text.now.items in
    let says = c.args.line.now.claim in
    let xs = c.args.line.now.operands.items in
    let all : take c.loop-operand.operand-index xs ≡ xs = take_all c.loop-operand.operand-index xs (omega (arith, c.loop-operand-test.false, ap length c.deref-operand-items.ensures.value)) in
    c.in_ok-push.ensures.items
    ∙ (ap (λ (bs : List ℕ). bs ++ 10 ∷ []) c.loop-operand.invariant
    ∙ (ap (λ (bs : List ℕ). (bs ++ operand_texts (take c.loop-operand.operand-index xs)) ++ 10 ∷ []) c.in_ok-append_claim.ensures
    ∙ (ap (λ (ys : List Operand). ((before ++ spaced (claim_words says)) ++ operand_texts ys) ++ 10 ∷ []) all
    ∙ whole-line before says xs)))
