use Rattle.std.proofs.Common.{ℕ, List, ◌∷◌, ◌++◌, [], ◌∙◌, ap, subst, Result}
use Rattle.tg_words.specs.declared.faults.TextKind.{TextKind}
use Rattle.tg_text.specs.declared.rule_text.RuleLine.{RuleLine}
use Rattle.tg_words.specs.Reading.{Reads}
use Rattle.tg_text.specs.RuleText.{rules_make}
use Rattle.tg_text.proofs.RuleSinks.{rules-listed}
use Rattle.tg_text.proofs.rule_text.read_rules.Goals as goal

pub returns-clause-value : goal.returns-clause-value
returns-clause-value c =
    let text = c.args.text.now in
    let P : Result (List RuleLine) (ℕ × TextKind) → Type 0 = Reads (λ rules. rules.items) c.read_rules_into.result in
    subst P (ap (λ (start : List RuleLine). rules_make (λ rules rule. rules ++ rule ∷ []) start text) c.new.ensures.items ∙ rules-listed text) c.read_rules_into.ensures.value
